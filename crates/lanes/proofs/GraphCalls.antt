-- What the graph call answers: what is written is what it owes.
--   path_written, barrier_written           what the search found, written, is what is owed of the graph
--   graph_refused, graph_answered           what a refused call owes; what an answered one does, of the file's graph
use mathlib.Core.Path.{◌≡◌, refl, sym, subst, ◌∙◌}
use mathlib.Core.Bool.{true, false}
use mathlib.Core.List.{List, [], ◌∷◌}
use Prim.Native.Nat.{ℕ, suc, ◌+◌, ◌*◌, ◌≤◌}
use native.Mathlib.Omega.{arith}
use lib.Dec.{eqb}
use borrow.Author.Tests.{eqb-true, ne_eqb}
use lib.ListN.{length, take, length-append, length-take}
use Rattle.std.specs.Prelude.{Result, Ok}
use Rattle.std.specs.Result.{IsErr, IsErrAnd}
use Rattle.formats.specs.Refusals.{refusal_number}
use Rattle.formats.specs.declared.refusals.Refusal.{Refusal}
use Rattle.counting.proofs.Booleans.{and_left, and_right, true_false}
use Rattle.frames.proofs.Writes.{hex_bytes_length}
use Rattle.arcs.specs.Table.{ArcTable}
use Rattle.search.specs.Answer.{PathWritten}
use Rattle.search.proofs.Answers.{wanted_front}
use Rattle.skew.specs.Graph.{Graph, mate, is_regular, is_wanted, has_path, canonical}
use Rattle.skew.specs.Paths.{WellFormed}
use Rattle.skew.proofs.Promise.{reaches_by_paths}
use Rattle.files.specs.GraphFile.{graph_in, graph_fault}
use Rattle.files.specs.CertificateFile.{path_lines, path_text, class_lines, barrier_text}
use Rattle.files.specs.Answers.{WrittenFirst}
use Rattle.frames.proofs.Questions.{refusal_some, passed_on}
use Rattle.lanes.specs.Entry.{answer_fault}
use Rattle.lanes.specs.Calls.{CallAsked}
use Rattle.lanes.proofs.CallFaults.{call_passes}
use Rattle.lanes.specs.GraphCalls.{GraphWritten, GraphAnswered}
use Rattle.lanes.specs.declared.Answer.{Answer}
use Rattle.lanes.specs.declared.Outcome.TheVariants as outcome

-- SIZES
path_lines_length : (is : List ℕ) → length (path_lines is) ≡ 7 * length is
unfolding path_lines
path_lines_length [] = refl
path_lines_length (i ∷ is) = simp (length-append, hex_bytes_length) (omega (arith, path_lines_length is))

path_size : (is : List ℕ) → length (path_text is) ≡ 10 + 7 * length is
path_size is = simp (length-append, hex_bytes_length) (omega (arith, path_lines_length is))

class_lines_length : (v : ℕ) (cs : List ℕ) → length (class_lines v cs) ≡ 7 * length cs
unfolding class_lines
class_lines_length v [] = refl
class_lines_length v (c ∷ cs) = simp (length-append, hex_bytes_length) (omega (arith, class_lines_length (suc v) cs))

barrier_size : (cs : List ℕ) → length (barrier_text cs) ≡ 10 + 7 * length cs
barrier_size cs = simp (length-append, hex_bytes_length) (omega (arith, class_lines_length 0 cs))

-- WHAT THE SEARCH FOUND
wanted_path : (g : Graph) → WellFormed g → (is : List ℕ) → is_wanted g is ≡ true → has_path g ≡ true
wanted_path g wf is e =
    (reaches_by_paths g wf (mate g.source)).1
    (is, (and_left (is_regular g is) _ e, eqb-true _ _ (and_right (is_regular g is) _ e)))

module _ {g : Graph} (T : ArcTable g) {before after : List ℕ} {size : ℕ} where
  pub path_written : {k : ℕ} {p p' : List ℕ} → PathWritten g k p p' → 2 * g.pairs ≤ length p → WrittenFirst (path_text (take k p')) before after size →
      GraphWritten g before after (record { size = size; outcome = outcome.Path })
  path_written {k = k} {p' = p'} W l w =
      let short = W.few in
      let wanted = wanted_front W (omega arith) in
      let has = wanted_path g T.well_formed (take k p') wanted in
      record {
        path = λ _. (take k p', (wanted, (rw w.told, w.bytes)));
        barrier = λ z. true_false has z;
        outcome = rw has;
        small = omega (arith, w.told, path_size (take k p'), length-take k p', T.pairs_few);
      }

  pub barrier_written : {cs : List ℕ} → has_path g ≡ false → cs ≡ canonical g → length cs ≡ 2 * g.pairs → WrittenFirst (barrier_text cs) before after size →
      GraphWritten g before after (record { size = size; outcome = outcome.Barrier })
  barrier_written {cs = cs} none is l w =
      record {
        path = λ z. true_false z none;
        barrier = λ _. rw (← is) (rw w.told, w.bytes);
        outcome = rw none;
        small = omega (arith, w.told, barrier_size cs, T.pairs_few);
      }

-- THE CALL
module _ {c : ℕ} {f o : List ℕ} where
  pub graph_refused : (r : Result Answer Refusal) (e : Refusal) → IsErr r × IsErrAnd r (λ d. d ≡ e) → answer_fault c f (length o) ≡ refusal_number e → GraphAnswered c f o r o
  graph_refused r e q is =
      let z : eqb (refusal_number e) 0 ≡ false = ne_eqb (refusal_number e) 0 (refusal_some e) in
      rw (passed_on q)
      (record { owes = (λ _. (rw (is, z), refl), λ y. absurd (refusal_some e (sym is ∙ y))); outcome = rw (is, z); small = omega arith })

  pub graph_answered : {u : Unit} {g : Graph} → graph_fault f ≡ 0 → g ≡ graph_in f → CallAsked c (length o) (Ok u) → {after : List ℕ} {r : Answer} →
      GraphWritten g o after r → GraphAnswered c f o (Ok r) after
  graph_answered none is A {after} {r} w =
      let v = subst (λ (g : Graph). GraphWritten g o after r) is w in
      let e : answer_fault c f (length o) ≡ 0 = call_passes A (graph_fault f) ∙ none in
      let z : eqb (answer_fault c f (length o)) 0 ≡ true = rw e in
      record { owes = (λ y. true_false z y, λ _. (v.barrier, v.path)); outcome = rw z v.outcome; small = v.small }
