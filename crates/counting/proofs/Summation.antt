-- Sums over the numbers below a bound.
--   sum_le, sum_lt      compared term by term
--   sum_same            the same terms have the same sum
--   sum_one_more        one term is larger by one, and so is the sum
use mathlib.Core.Path.{◌≡◌, sym, ap}
use mathlib.Core.Logic.{◌≢◌, ⊎_elim}
use Prim.Native.Nat.{ℕ, zero, suc, ◌≤◌, ◌<◌}
use native.Mathlib.Omega.{arith}
use Rattle.counting.specs.Sums.{sum}
use Rattle.counting.proofs.Booleans.{same_or}

pub sum_le : (f h : ℕ → ℕ) (n : ℕ) → ((i : ℕ) → i < n → f i ≤ h i) → sum f n ≤ sum h n
unfolding sum
sum_le f h zero l = omega arith
sum_le f h (suc n) l = omega (arith, sum_le f h n (λ i k. l i (omega arith)), l n (omega arith))

pub sum_lt : (f h : ℕ → ℕ) (n j : ℕ) → ((i : ℕ) → i < n → f i ≤ h i) → j < n → f j < h j → sum f n < sum h n
unfolding sum
sum_lt f h zero j l b s = absurd (omega arith)
sum_lt f h (suc n) j l b s =
    ⊎_elim (λ q. omega (arith, sum_le f h n (λ i k. l i (omega arith)), ap f q, ap h q))
    (λ q. omega (arith, sum_lt f h n j (λ i k. l i (omega arith)) (omega arith) s, l n (omega arith))) (same_or j n)

pub sum_same : (f h : ℕ → ℕ) (n : ℕ) → ((i : ℕ) → i < n → h i ≡ f i) → sum h n ≡ sum f n
unfolding sum
sum_same f h zero e = omega arith
sum_same f h (suc n) e = omega (arith, sum_same f h n (λ i k. e i (omega arith)), e n (omega arith))

pub sum_one_more : (f h : ℕ → ℕ) (n j : ℕ) → j < n → h j ≡ suc (f j) → ((i : ℕ) → i ≢ j → h i ≡ f i) → sum h n ≡ suc (sum f n)
unfolding sum
sum_one_more f h zero j b s e = absurd (omega arith)
sum_one_more f h (suc n) j b s e =
    ⊎_elim (λ q. omega (arith, sum_same f h n (λ i k. e i (λ r. omega arith)), ap f q, ap h q, s))
    (λ q. omega (arith, sum_one_more f h n j (omega arith) s e, e n (λ r. q (sym r)))) (same_or j n)
