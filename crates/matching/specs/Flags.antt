-- A table of flags, one for each camera or node.
--   is_flagged ts u     the flag of u is set; past the table's end none is
--   flag_pair ts x      the flags of both cameras of a pair set: two stores
use Rattle.std.specs.Prelude.{Bool, true, false, List, ℕ, get_or, set}
use Rattle.counting.specs.declared.Pair.{Pair}

abbrev pub is_flagged : (flags : List Bool) → (place : ℕ) → Bool
is_flagged ts u = get_or ts u false

abbrev pub flag_pair : (flags : List Bool) → Pair → List Bool
flag_pair ts x = set (set ts x.first true) x.second true
