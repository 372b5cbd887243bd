-- What a reader stores, and flags of cameras.
--   stored qs xs       what is stored of xs: all of it where no question is answered no, else nothing
--   is_free ts x       a table of flags has none set for either camera of x
use Rattle.std.specs.Prelude.{Bool, ◌&&◌, not, List, [], eqb}
use Rattle.counting.specs.Tests.{pick}
use Rattle.counting.specs.declared.Pair.{Pair}
use Rattle.frames.specs.Questions.{Question, first_no}
use Rattle.matching.specs.Flags.{is_flagged}

abbrev pub stored : {A : Type 0} → List Question → List A → List A
stored qs xs = pick (eqb (first_no qs) 0) xs []

abbrev pub is_free : (flags : List Bool) → Pair → Bool
is_free ts x = not (is_flagged ts x.first) && not (is_flagged ts x.second)
