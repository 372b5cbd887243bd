-- What is promised of every stock that questions 9 and 11 to 14 accept (document 01, "Questions put to a call"; document 03's promises, over stocks
-- instead of files). Each promise is a type; a proof of the type is the theorem.
--   WellFormedStock s      what those questions settle
--   GreatestIs             the greatest number of pairs is the most that a pairing has, and some plan exists
--   LeftBySome fs u        some largest pairing leaves the camera over
--   joins u v x            the pair is of these two cameras
--   FitsSomeLeft fs u      the camera fits one that some largest pairing leaves over
--   HasFit fs u            the camera fits some camera
--   MarkMeans fs u m       what mark m says of a camera (document 02, L2): one line a mark, and there is no other
--   MarksAre               a camera has mark m exactly if that holds of it
use Rattle.std.specs.Prelude.{◌≡◌, ◌↔◌, Bool, true, false, ◌&&◌, ◌||◌, List, ℕ, zero, suc, ◌≤◌, ◌<◌, eqb, length}
use Rattle.counting.specs.Tests.{all, any}
use Rattle.counting.specs.Pairs.{pair_named}
use Rattle.counting.specs.declared.Pair.{Pair}
use Rattle.matching.specs.Stock.{Stock, has_pair, none_shared, is_included, is_pairing, greatest, mark_of, pairs_rise, is_plan}

pub record WellFormedStock (s : Stock) : Type 0 where
  pub named : all (pair_named s.cameras) s.fits ≡ true
  pub rising : pairs_rise s.fits ≡ true
  pub lit_rising : pairs_rise s.lit ≡ true
  pub lit_fits : all (has_pair s.fits) s.lit ≡ true
  pub lit_apart : none_shared s.lit ≡ true

abbrev pub GreatestIs : Type 0
GreatestIs =
    (s : Stock) (ps : List Pair) → WellFormedStock s →
    (is_pairing s.fits ps ≡ true → length ps ≤ greatest s.fits) ×
    ((qs : List Pair) × ((is_pairing s.fits qs ≡ true) × (length qs ≡ greatest s.fits))) ×
    ((qs : List Pair) × (is_plan s qs ≡ true))

abbrev pub LeftBySome : (fits : List Pair) → (camera : ℕ) → Type 0
LeftBySome fs u =
    (ps : List Pair) × ((is_pairing fs ps ≡ true) × (length ps ≡ greatest fs) × (is_included ps u ≡ false))

abbrev pub joins : (one other : ℕ) → Pair → Bool
joins u v x = (eqb x.first u && eqb x.second v) || (eqb x.first v && eqb x.second u)

abbrev pub FitsSomeLeft : (fits : List Pair) → (camera : ℕ) → Type 0
FitsSomeLeft fs u = (v : ℕ) × ((any (joins u v) fs ≡ true) × LeftBySome fs v)

abbrev pub HasFit : (fits : List Pair) → (camera : ℕ) → Type 0
HasFit fs u = (v : ℕ) × (any (joins u v) fs ≡ true)

-- marks 0, 1, 2 and 3, in this order
unfoldable pub MarkMeans : (fits : List Pair) → (camera mark : ℕ) → Type 0
MarkMeans fs u zero = LeftBySome fs u × HasFit fs u
MarkMeans fs u (suc zero) = (LeftBySome fs u → true ≡ false) × FitsSomeLeft fs u
MarkMeans fs u (suc (suc zero)) = (LeftBySome fs u → true ≡ false) × (FitsSomeLeft fs u → true ≡ false)
MarkMeans fs u (suc (suc (suc zero))) = HasFit fs u → true ≡ false
MarkMeans fs u (suc (suc (suc (suc m)))) = true ≡ false

abbrev pub MarksAre : Type 0
MarksAre =
    (s : Stock) (u m : ℕ) → WellFormedStock s → u < s.cameras → (mark_of s.fits u ≡ m) ↔ MarkMeans s.fits u m
