-- Bytes as they are compared with the front of a file.
--   barrier_line                              the first line of a barrier, as bytes (document 01, "The form each place takes")
--   barrier_line_cr_lf                        the same with a carriage return before its line feed (document 02, L1)
--   begins_barrier file                       the file begins with that line, ended either way
use Rattle.std.specs.Prelude.{Bool, ◌||◌, List, [], ◌∷◌, ℕ, eqb}
use Rattle.std.specs.List.{starts_with}

abbrev pub barrier_line : List ℕ
barrier_line = 51 ∷ 49 ∷ 10 ∷ []

abbrev pub barrier_line_cr_lf : List ℕ
barrier_line_cr_lf = 51 ∷ 49 ∷ 13 ∷ 10 ∷ []

abbrev pub begins_barrier : (file : List ℕ) → Bool
begins_barrier f = starts_with eqb f barrier_line || starts_with eqb f barrier_line_cr_lf
