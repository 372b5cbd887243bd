-- Pairs of cameras as they stand in the block, in two columns of bytes of one size.
--   column_pairs at most n b           the first n of the pairs in the columns that begin at a place
--   ColumnsPut b at most ps b'         these pairs stand in the columns, and nothing else differs
use Rattle.std.specs.Prelude.{◌≡◌, List, ℕ, ◌+◌, take, drop}
use Rattle.std.proofs.lemmas.List.Edits.{sets}
use Rattle.counting.specs.Pairs.{firsts_of, seconds_of, pairs_of}
use Rattle.counting.specs.declared.Pair.{Pair}

abbrev pub column_pairs : (at most count : ℕ) → (block : List ℕ) → List Pair
column_pairs at most n b = pairs_of n (take most (drop at b)) (take most (drop (at + most) b))

pub record ColumnsPut (b : List ℕ) (at most : ℕ) (ps : List Pair) (then : List ℕ) : Type 0 where
  pub bytes : then ≡ sets (sets b at (firsts_of ps)) (at + most) (seconds_of ps)
