-- The chains of questions, document 03's and that of a graph with question 16, as lists: each fault is the number of the first question of its list that
-- is answered no.
--   graph_asked, stock_asked, path_asked, barrier_asked     one for each kind of file
--   basic_asked                                             and document 03's own for a graph, without 16
--   lit_asked                                               past 11, a stock's questions of its pairs are those of the lit pairs against the fits
--   graph_refusal, stock_refusal                            a refusal is 0 or one of the list's numbers: what holds of those holds of it
use mathlib.Core.Path.{◌≡◌, refl}
use mathlib.Core.Bool.{Bool, true}
use mathlib.Core.List.{List, [], ◌∷◌}
use Prim.Native.Nat.{ℕ}
use lib.Dec.{eqb, leb, ltb}
use lib.ListN.{length}
use Rattle.formats.specs.Kinds.{class_kind}
use Rattle.formats.specs.Limits.{fits_most, steps_most}
use Rattle.counting.specs.Tests.{all}
use Rattle.counting.specs.Pairs.{pair_named}
use Rattle.counting.specs.declared.Pair.{Pair}
use Rattle.frames.specs.Frames.{body_lines, pairs_in, graph_form, stock_form, path_form, barrier_form}
use Rattle.frames.specs.Questions.{ask, first_no, numbers_are}
use Rattle.frames.specs.Shape.{shape_questions}
use Rattle.frames.proofs.Questions.{chain_first, or_first, refusal_is}
use Rattle.frames.proofs.ShapeFaults.{shape_asked}
use Rattle.skew.specs.Graph.{Graph, nodes}
use Rattle.matching.specs.Stock.{pairs_rise}
use Rattle.matching.proofs.LookUp.{all_found}
use Rattle.files.specs.GraphFile as graph
use Rattle.files.specs.GraphFile.{graph_in, graph_fault, basic_graph_fault, arcs_fit, arcs_questions, graph_questions, basic_arcs_questions, basic_questions}
use Rattle.files.specs.StockFile as stock
use Rattle.files.specs.StockFile.{stock_in, stock_fault, lit_questions, pairs_questions, stock_questions}
use Rattle.files.specs.CertificateFile.{path_arcs, path_fault, path_questions, names_in_order, barrier_fault, barrier_questions}

pub graph_asked : (f : List ℕ) → graph_fault f ≡ first_no (graph_questions f)
graph_asked f =
    let later = ask 8 (arcs_fit (length (graph_in f).arcs)) ∷ arcs_questions (nodes (graph_in f)) (graph_in f).arcs in
    or_first (shape_questions graph_form f (graph.header_fits f)) later refl (shape_asked graph_form f (graph.header_fits f)) (chain_first later refl)

pub basic_asked : (f : List ℕ) → basic_graph_fault f ≡ first_no (basic_questions f)
basic_asked f =
    let later = ask 8 (arcs_fit (length (graph_in f).arcs)) ∷ basic_arcs_questions (nodes (graph_in f)) (graph_in f).arcs in
    or_first (shape_questions graph_form f (graph.header_fits f)) later refl (shape_asked graph_form f (graph.header_fits f)) (chain_first later refl)

pub stock_asked : (f : List ℕ) → stock_fault f ≡ first_no (stock_questions f)
stock_asked f =
    let later = ask 8 (leb (length (stock_in f).fits) fits_most) ∷ pairs_questions (stock_in f).cameras (stock_in f).fits (stock_in f).lit in
    or_first (shape_questions stock_form f (stock.header_fits f)) later refl (shape_asked stock_form f (stock.header_fits f)) (chain_first later refl)

pub lit_asked : (n : ℕ) (fs ls : List Pair) → all (pair_named n) fs ≡ true → all (pair_named n) ls ≡ true → pairs_rise fs ≡ true →
    first_no (lit_questions fs ls) ≡ first_no (pairs_questions n fs ls)
lit_asked n fs ls p q e = rw (p, q, e, all_found fs ls e)

pub path_asked : (g : Graph) (f : List ℕ) → path_fault g f ≡ first_no (path_questions (length g.arcs) f)
path_asked g f =
    let later = ask 8 (leb (length (body_lines f)) steps_most) ∷ ask 9 (all (λ (i : ℕ). ltb i (length g.arcs)) (path_arcs f)) ∷ [] in
    or_first (shape_questions path_form f true) later refl (shape_asked path_form f true) (chain_first later refl)

pub barrier_asked : (g : Graph) (f : List ℕ) → barrier_fault g f ≡ first_no (barrier_questions (nodes g) f)
barrier_asked g f =
    let later = ask 8 (eqb (length (body_lines f)) (nodes g)) ∷ ask 9 (names_in_order 0 (pairs_in class_kind (body_lines f))) ∷ [] in
    or_first (shape_questions barrier_form f true) later refl (shape_asked barrier_form f true) (chain_first later refl)

-- REFUSALS
pub stock_refusal : (f : List ℕ) (p : ℕ → Bool) → p 0 ≡ true → numbers_are p (stock_questions f) ≡ true → p (stock_fault f) ≡ true
stock_refusal f p z h = rw (stock_asked f) (refusal_is p (stock_questions f) z h)

pub graph_refusal : (f : List ℕ) (p : ℕ → Bool) → p 0 ≡ true → numbers_are p (graph_questions f) ≡ true → p (graph_fault f) ≡ true
graph_refusal f p z h = rw (graph_asked f) (refusal_is p (graph_questions f) z h)
