-- A table of classes judged class by class (document 01, "The barrier").
--   arc_allowed classes x                 arc_fits, for proofs that need not look into it
--   entered_once entries class            the counter of a class is 1, if it is an Xi
--   all_entered entries top               the same for each class up to top
--   Counting classes arcs entries i       the counters hold the entries of the first i arcs
use Rattle.std.specs.Prelude.{◌≡◌, Bool, ◌||◌, List, ℕ, suc, ◌+◌, ◌<◌, ltb, eqb, length, get_or, drop}
use Rattle.counting.specs.Tests.{all, below}
use Rattle.skew.specs.Graph.{arc_fits, entries_into}
use Rattle.skew.specs.declared.Arc.{Arc}

unfoldable pub arc_allowed : (classes : List ℕ) → Arc → Bool
arc_allowed classes x = arc_fits classes x

abbrev pub entered_once : (entries : List ℕ) (class : ℕ) → Bool
entered_once entries class = ltb class 3 || eqb (get_or entries class 0) 1

abbrev pub all_entered : (entries : List ℕ) (top : ℕ) → Bool
all_entered entries top = all (entered_once entries) (below (suc top))

pub record Counting (classes : List ℕ) (arcs : List Arc) (entries : List ℕ) (i : ℕ) : Type 0 where
  pub long : length entries ≡ 256
  pub counts : (c : ℕ) → c < 256 → get_or entries c 0 + entries_into classes c (drop i arcs) ≡ entries_into classes c arcs
