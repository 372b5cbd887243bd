-- A pair of numbers (document 03): an arc's tail and head as they are read and stored, a fit's two cameras, the numbers of a body frame.
--   pair a b            the pair of a and b
--   no_pair             the pair of zeros, read past a list's end
--   ends xs             the numbers of the pairs, both of each, in order
--   firsts_of xs        the first number of each pair, in order
--   seconds_of xs       the second number of each pair (document 03)
--   zip_pairs xs ys     two lists, pair by pair, as far as both go
--   pairs_of n xs ys    the first n elements of both
--   pair_named n x      both numbers of a pair are below n
--   number_of x         both numbers as one, the first the higher byte of it
use Rattle.std.specs.Prelude.{Bool, ◌&&◌, List, [], ◌∷◌, ℕ, ◌+◌, ◌*◌, ltb, take}
use Rattle.counting.specs.declared.Pair.{Pair}

abbrev pub pair : ℕ → ℕ → Pair
pair a b = record { first = a; second = b }

abbrev pub no_pair : Pair
no_pair = pair 0 0

unfoldable pub ends : List Pair → List ℕ
ends [] = []
ends (x ∷ xs) = x.first ∷ x.second ∷ ends xs

unfoldable pub firsts_of : List Pair → List ℕ
firsts_of [] = []
firsts_of (x ∷ xs) = x.first ∷ firsts_of xs

unfoldable pub seconds_of : List Pair → List ℕ
seconds_of [] = []
seconds_of (x ∷ xs) = x.second ∷ seconds_of xs

unfoldable pub zip_pairs : List ℕ → List ℕ → List Pair
zip_pairs [] ys = []
zip_pairs (x ∷ xs) [] = []
zip_pairs (x ∷ xs) (y ∷ ys) = pair x y ∷ zip_pairs xs ys

abbrev pub pairs_of : (count : ℕ) → (firsts seconds : List ℕ) → List Pair
pairs_of n xs ys = zip_pairs (take n xs) (take n ys)

abbrev pub pair_named : (bound : ℕ) → Pair → Bool
pair_named n x = ltb x.first n && ltb x.second n

abbrev pub number_of : Pair → ℕ
number_of x = 256 * x.first + x.second
