-- Loops over a row of partners.
--   row_graph row arcs                        the graph of an arc table that belongs to the row
--   Following arcs path row₀ left row         the rotations of the path up to those left are done
--   ByCamera list_for row v left k w          of the row, what follows from camera k on is left: with the list for these cameras behind it, the list for all is written
--   LitFrom pairs row₀ left row               the row is that of the pairs behind those left
use Rattle.std.specs.Prelude.{◌≡◌, List, ◌++◌, ℕ, suc, ◌+◌, ◌*◌, length, drop}
use Rattle.counting.specs.Tests.{below}
use Rattle.counting.specs.SliceVecs.{Extending}
use Rattle.counting.specs.declared.Pair.{Pair}
use Rattle.counting.specs.declared.slice_vec.SliceVec.{SliceVec}
use Rattle.skew.specs.declared.Arc.{Arc}
use Rattle.skew.specs.Graph.{Graph}
use Rattle.arcs.specs.Table.{graph}
use Rattle.matching.specs.Matching.{partner}
use Rattle.matching.specs.Rotation.{rotate_along, Rotates}
use Rattle.matching.specs.Row.{partner_in}

abbrev pub row_graph : (row : List ℕ) → (arcs : List Arc) → Graph
row_graph row arcs = graph (suc (length row)) (2 * length row) arcs

pub record ByCamera {A : Type 0} (list_for : List ℕ → List A) (row : List ℕ) (v : SliceVec A) (left : List ℕ) (k : ℕ) (w : SliceVec A) : Type 0 where
  pub left_is : left ≡ drop k row
  pub inside : k + length left ≡ length row
  pub written : Extending v (list_for (below (length row))) w (list_for (drop k (below (length row))))

pub record Following (arcs : List Arc) (path row₀ left row : List ℕ) : Type 0 where
  pub long : length row ≡ length row₀
  pub rotates : Rotates (length row₀) (row_graph row₀ arcs) left (partner_in row)
  pub rest : rotate_along (row_graph row₀ arcs) left (partner_in row) ≡ rotate_along (row_graph row₀ arcs) path (partner_in row₀)

pub record LitFrom (pairs : List Pair) (row₀ : List ℕ) (left : List Pair) (row : List ℕ) : Type 0 where
  pub long : length row ≡ length row₀
  pub done : List Pair
  pub whole : pairs ≡ left ++ done
  pub lit : partner_in row ≡ partner done
