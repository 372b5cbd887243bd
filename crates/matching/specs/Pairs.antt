-- Lists of pairs of cameras as types that compute.
--   EndOf x k      k is one of the two cameras of x
--   Before x y     x stands before y: by first camera, then by second
--   Rising xs      smaller camera first, each pair before all that follow
use Rattle.std.specs.Prelude.{◌≡◌, ◌⊎◌, List, [], ◌∷◌, ℕ, ◌<◌}
use Rattle.counting.specs.Lists.{In}
use Rattle.counting.specs.declared.Pair.{Pair}

abbrev pub EndOf : Pair → (camera : ℕ) → Type 0
EndOf x k = (k ≡ x.first) ⊎ (k ≡ x.second)

abbrev pub Before : Pair → Pair → Type 0
Before x y = (x.first < y.first) ⊎ ((x.first ≡ y.first) × (x.second < y.second))

abbrev pub Rising : List Pair → Type 0
Rising [] = Unit {0}
Rising (x ∷ xs) = (x.first < x.second) × ((y : Pair) → In y xs → Before x y) × Rising xs
