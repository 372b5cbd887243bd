-- The numbers below a bound.
--   up_in, in_up, length_up, distinct_up      up_from a n: from a on, below a + n, n of them, no repeats
--   pigeonhole                                numbers below n without repeats: at most n of them
--   some_or_each                              bounded search: some number below n has the one thing, or all have the other
use mathlib.Core.Path.{◌≡◌, refl, sym, ap, subst}
use mathlib.Core.Logic.{◌⊎◌, inl, inr, ⊎_elim}
use mathlib.Core.List.{List}
use Prim.Native.Nat.{ℕ, zero, suc, ◌+◌, ◌≤◌, ◌<◌}
use native.Mathlib.Omega.{arith}
use lib.ListN.{length}
use Rattle.counting.specs.Tests.{up_from, below}
use Rattle.counting.specs.Lists.{In, Within, Distinct}
use Rattle.counting.proofs.Booleans.{same_or}
use Rattle.counting.proofs.Pigeonhole.{distinct_within}

pub up_in : (a n i : ℕ) → a ≤ i → i < a + n → In i (up_from a n)
unfolding up_from
up_in a zero i h l = absurd (omega arith)
up_in a (suc n) i h l = ⊎_elim (λ e. inl e) (λ e. inr (up_in (suc a) n i (omega arith) (omega arith))) (same_or i a)

pub in_up : (a n i : ℕ) → In i (up_from a n) → (a ≤ i) × (i < a + n)
unfolding up_from
in_up a zero i m = absurd m
in_up a (suc n) i (inl e) = omega arith
in_up a (suc n) i (inr m) = omega (arith, in_up (suc a) n i m)

pub length_up : (a n : ℕ) → length (up_from a n) ≡ n
unfolding up_from
length_up a zero = refl
length_up a (suc n) = ap suc (length_up (suc a) n)

pub distinct_up : (a n : ℕ) → Distinct (up_from a n)
unfolding up_from
distinct_up a zero = tt
distinct_up a (suc n) = (λ m. omega (arith, in_up (suc a) n a m), distinct_up (suc a) n)

pub pigeonhole : (n : ℕ) (xs : List ℕ) → Distinct xs → Within (λ (x : ℕ). x < n) xs → length xs ≤ n
pigeonhole n xs d w =
    omega (arith, length_up 0 n, distinct_within xs (below n) d (λ x m. up_in 0 n x (omega arith) (omega (arith, w x m))))

pub some_or_each : {P Q : ℕ → Type 0} (n : ℕ) → ((i : ℕ) → i < n → P i ⊎ Q i) → ((i : ℕ) × (i < n) × P i) ⊎ ((i : ℕ) → i < n → Q i)
some_or_each zero f = inr (λ i h. absurd (omega arith))
some_or_each {P} {Q} (suc n) f = go (f n (omega arith)) (some_or_each n (λ i h. f i (omega arith)))
  where
    go : P n ⊎ Q n → ((i : ℕ) × (i < n) × P i) ⊎ ((i : ℕ) → i < n → Q i) → ((i : ℕ) × (i < suc n) × P i) ⊎ ((i : ℕ) → i < suc n → Q i)
    go (inl a) r = inl (n, omega arith, a)
    go (inr b) (inl r) = inl (r.0, omega (arith, r.1), r.2)
    go (inr b) (inr e) = inr (λ i h. ⊎_elim (λ q. subst (λ (k : ℕ). Q k) (sym q) b) (λ q. e i (omega arith)) (same_or i n))
