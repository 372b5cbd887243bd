-- The Gallai-Edmonds decomposition as a certificate that a matching p is largest: D, the outer cameras, fall into groups of odd size, each with a
-- representative; A, the inner cameras, are all that the cameras of a group fit outside it.
--   Certificate n fs p D A group      what a doubled table without an augmenting path gives
--   those n f                         the cameras that pass a test
--   is_representative                 one camera of each group
--   is_left_outer                     outer, and left over by a matching
--   is_left_or_inner                  that, or inner
use Rattle.std.specs.Prelude.{◌≡◌, ◌⊎◌, ◌≢◌, Bool, true, false, ◌&&◌, ◌||◌, List, ℕ, ◌<◌, eqb}
use Rattle.counting.specs.Tests.{below, keep}
use Rattle.counting.specs.declared.Pair.{Pair}
use Rattle.matching.specs.Matching.{Fits, is_unlit}

pub record Certificate (n : ℕ) (fs : List Pair) (p : ℕ → ℕ) (D A : ℕ → Bool) (group : ℕ → ℕ) : Type 0 where
  pub fits : (u v : ℕ) → Fits fs u v → D u ≡ true → (A v ≡ true) ⊎ ((D v ≡ true) × (group u ≡ group v))
  pub apart : (k : ℕ) → A k ≡ true → D k ≡ false
  pub unlit : (k : ℕ) → k < n → p k ≡ k → (D k ≡ true) × (group k ≡ k)
  pub inner : (k : ℕ) → k < n → A k ≡ true → (p k ≢ k) × (D (p k) ≡ true) × (group (p k) ≡ p k)
  pub representative : (k : ℕ) → k < n → D k ≡ true → group k ≡ k → (p k ≡ k) ⊎ (A (p k) ≡ true)
  pub member : (k : ℕ) → k < n → D k ≡ true → group k ≢ k → (p k ≢ k) × (D (p k) ≡ true) × (group (p k) ≡ group k)
  pub represented : (k : ℕ) → k < n → D k ≡ true → (group k < n) × (D (group k) ≡ true) × (group (group k) ≡ group k)

abbrev pub those : (cameras : ℕ) → (ℕ → Bool) → List ℕ
those n f = keep f (below n)

abbrev pub is_representative : (outer : ℕ → Bool) → (group : ℕ → ℕ) → (camera : ℕ) → Bool
is_representative D group k = D k && eqb (group k) k

abbrev pub is_left_outer : (outer : ℕ → Bool) → (partner : ℕ → ℕ) → (camera : ℕ) → Bool
is_left_outer D q k = is_unlit q k && D k

abbrev pub is_left_or_inner : (outer inner : ℕ → Bool) → (partner : ℕ → ℕ) → (camera : ℕ) → Bool
is_left_or_inner D A q k = is_left_outer D q k || A k
