-- What the questions settle of a file that none of them refuses; of a graph, document 03's, without 16.
--   accepted_graph                the graph is well formed
--   graph_few                     it has at most 128 mate pairs and 8,192 arcs
--   accepted_stock                the stock is well formed
--   stock_few, fits_few           it has at most 127 cameras and 3,900 fits
use mathlib.Core.Path.{◌≡◌, refl, sym, ◌∙◌}
use mathlib.Core.Bool.{true}
use mathlib.Core.List.{List}
use Prim.Native.Nat.{ℕ, ◌≤◌, ◌%◌}
use lib.Dec.{eqb, leb, ltb}
use borrow.Author.Tests.{eqb-true, leb-true, ltb-true}
use lib.ListN.{length}
use Rattle.formats.specs.Limits.{arcs_most, cameras_most, fits_most, mate_pairs_most}
use Rattle.counting.specs.Tests.{all}
use Rattle.counting.specs.Pairs.{pair_named}
use Rattle.counting.proofs.Booleans.{and_left, and_right}
use Rattle.counting.proofs.Membership.{all_get_d}
use Rattle.frames.specs.Frames.{is_in, hex_at, first_line}
use Rattle.frames.specs.Questions.{answer_to}
use Rattle.frames.proofs.Questions.{accepted}
use Rattle.skew.specs.Graph.{no_arc, nodes, arc_at}
use Rattle.skew.specs.Paths.{WellFormed}
use Rattle.matching.specs.Promise.{WellFormedStock}
use Rattle.files.specs.GraphFile.{graph_in, arc_named, basic_graph_fault, basic_questions}
use Rattle.files.specs.StockFile.{stock_in, stock_fault, stock_questions}
use Rattle.files.proofs.Asked.{basic_asked, stock_asked}

-- GRAPHS
module _ (f : List ℕ) (e : basic_graph_fault f ≡ 0) where
  graph_yes : (n : ℕ) → answer_to n (basic_questions f) ≡ true
  graph_yes n = accepted n (basic_questions f) refl (sym (basic_asked f) ∙ e)

  pub accepted_graph : WellFormed (graph_in f)
  accepted_graph =
      record {
        symmetric =
            record {
              mates_fit_lem = graph_yes 10;
              even = eqb-true _ _ (and_left _ (leb (length (graph_in f).arcs) arcs_most) (graph_yes 8));
            };
        head_node =
            λ i h.
            ltb-true _ _ (and_right (ltb (arc_at (graph_in f) i).tail (nodes (graph_in f))) _ (all_get_d (arc_named (graph_in f)) (graph_in f).arcs no_arc i (graph_yes 9) h));
        source_node = ltb-true _ _ (and_right (is_in 1 mate_pairs_most (hex_at 2 2 (first_line f))) _ (graph_yes 5));
      }

  pub graph_few : ((graph_in f).pairs ≤ mate_pairs_most) × (length (graph_in f).arcs ≤ arcs_most)
  graph_few = (
    leb-true _ _ (and_right (leb 1 (hex_at 2 2 (first_line f))) _ (and_left (is_in 1 mate_pairs_most (hex_at 2 2 (first_line f))) _ (graph_yes 5))),
    leb-true _ _ (and_right (eqb (length (graph_in f).arcs % 2) 0) _ (graph_yes 8)),
  )

-- STOCKS
module _ (f : List ℕ) (e : stock_fault f ≡ 0) where
  stock_yes : (n : ℕ) → answer_to n (stock_questions f) ≡ true
  stock_yes n = accepted n (stock_questions f) refl (sym (stock_asked f) ∙ e)

  pub stock_few : (stock_in f).cameras ≤ cameras_most
  stock_few = leb-true _ _ (stock_yes 5)

  pub fits_few : length (stock_in f).fits ≤ fits_most
  fits_few = leb-true _ _ (stock_yes 8)

  pub accepted_stock : WellFormedStock (stock_in f)
  accepted_stock =
      record {
        named = and_left (all (pair_named (stock_in f).cameras) (stock_in f).fits) _ (stock_yes 9);
        rising = stock_yes 11;
        lit_rising = stock_yes 12;
        lit_fits = stock_yes 13;
        lit_apart = stock_yes 14;
      }
