-- The look-up of a pair among fits (document 02, L3): it goes through the fits from the first one, and ends at the first that is equal or larger.
-- Larger is by first camera, then by second, as fits rise. Any list of fits and any pair are meant, unless a promise says otherwise.
--   looked_at fs x            the fits that are looked at: from the first to that one, or all if there is none
--   looked fs x              how many they are
--   is_found fs x             the pair is one of them
--   LookedUp fs x z k        an answer z and a number k that are these
--   EqualOrLarger y x        y is x, or larger: a fit at which the look-up of x ends
--   EndsAt fs x i            the first such fit stands at place i
--   LooksUpTo fs x k         k is document 02's number, by places: up to that fit, or all fits where each is smaller
--   LookCounts               PROMISE: the number is that one, and no other
--   LookBounded              PROMISE: it is at most the number of fits, and at least 1 where there is a fit
--   LookPasses               PROMISE: every fit before the last one looked at is smaller than the pair
--   FoundLast                PROMISE: the pair is found exactly if the last fit looked at is the pair
--   LookFinds                PROMISE: where fits rise, the pair is found exactly if it is a fit
--   three_fits, Gives, KnownLookUps    examples: a pair before all fits, found first, between two, found second and last, after all; no fits
use Rattle.std.specs.Prelude.{◌≡◌, ◌⊎◌, ◌↔◌, Bool, true, false, List, [], ◌∷◌, ℕ, suc, ◌≤◌, ◌<◌, length, get_or}
use Rattle.counting.specs.Tests.{pick}
use Rattle.counting.specs.Lists.{In}
use Rattle.counting.specs.Pairs.{pair, no_pair}
use Rattle.counting.specs.declared.Pair.{Pair}
use Rattle.matching.specs.Stock.{has_pair, pair_before, pairs_rise}
use Rattle.matching.specs.Pairs.{Before}

-- THE LOOK-UP
unfoldable pub looked_at : (fits : List Pair) → (sought : Pair) → List Pair
looked_at [] x = []
looked_at (y ∷ ys) x = y ∷ pick (pair_before y x) (looked_at ys x) []

abbrev pub looked : (fits : List Pair) → (sought : Pair) → ℕ
looked fs x = length (looked_at fs x)

abbrev pub is_found : (fits : List Pair) → (sought : Pair) → Bool
is_found fs x = has_pair (looked_at fs x) x

pub record LookedUp (fs : List Pair) (x : Pair) (found : Bool) (count : ℕ) : Type 0 where
  pub answer : found ≡ is_found fs x
  pub number : count ≡ looked fs x

-- BY PLACES
abbrev pub EqualOrLarger : Pair → Pair → Type 0
EqualOrLarger y x = (y ≡ x) ⊎ Before x y

pub record EndsAt (fs : List Pair) (x : Pair) (i : ℕ) : Type 0 where
  pub below : i < length fs
  pub here : EqualOrLarger (get_or fs i no_pair) x
  pub passed : (j : ℕ) → j < i → Before (get_or fs j no_pair) x

abbrev pub LooksUpTo : (fits : List Pair) → (sought : Pair) → (count : ℕ) → Type 0
LooksUpTo fs x k =
    ((i : ℕ) × (k ≡ suc i) × EndsAt fs x i) ⊎ ((k ≡ length fs) × ((y : Pair) → In y fs → Before y x))

-- PROMISES
abbrev pub LookCounts : Type 0
LookCounts = (fs : List Pair) (x : Pair) (k : ℕ) → (looked fs x ≡ k) ↔ LooksUpTo fs x k

abbrev pub LookBounded : Type 0
LookBounded = (fs : List Pair) (x : Pair) → (looked fs x ≤ length fs) × (1 ≤ length fs → 1 ≤ looked fs x)

abbrev pub LookPasses : Type 0
LookPasses = (fs : List Pair) (x : Pair) (i : ℕ) → suc i < looked fs x → Before (get_or fs i no_pair) x

abbrev pub FoundLast : Type 0
FoundLast = (fs : List Pair) (x : Pair) → (is_found fs x ≡ true) ↔ ((i : ℕ) × (looked fs x ≡ suc i) × (get_or fs i no_pair ≡ x))

abbrev pub LookFinds : Type 0
LookFinds = (fs : List Pair) (x : Pair) → pairs_rise fs ≡ true → is_found fs x ≡ has_pair fs x

-- EXAMPLES: fits 0-2, 0-4 and 1-3
abbrev pub three_fits : List Pair
three_fits = pair 0 2 ∷ pair 0 4 ∷ pair 1 3 ∷ []

abbrev pub Gives : (fits : List Pair) → (sought : Pair) → Bool → (count : ℕ) → Type 0
Gives fs x z k = (is_found fs x ≡ z) × (looked fs x ≡ k)

abbrev pub KnownLookUps : Type 0
KnownLookUps =
    Gives three_fits (pair 0 1) false 1 × Gives three_fits (pair 0 2) true 1 × Gives three_fits (pair 0 3) false 2 ×
    Gives three_fits (pair 0 4) true 2 × Gives three_fits (pair 1 3) true 3 × Gives three_fits (pair 1 4) false 3 × Gives [] (pair 0 1) false 0
