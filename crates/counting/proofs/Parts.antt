-- Parts of a list, also after stores into it.
--   part_front                        a part of a list's front is one of the list
--   part_set, part_outside            a store, and a run of stores, outside a part
--   part_inside                       the run of stores itself
--   take_twice                        the first so many of the first so many
use mathlib.Core.Path.{◌≡◌, refl, ap, ◌∙◌}
use mathlib.Core.Logic.{◌⊎◌, inl, inr, ⊎_elim}
use mathlib.Core.List.{List, [], ◌∷◌, ◌++◌, append_assoc}
use Prim.Native.Nat.{ℕ, zero, suc, ◌+◌, ◌-◌, ◌≤◌, ◌<◌, min}
use native.Mathlib.Omega.{arith}
use lib.Dec.{leb}
use lib.ListN.{length, set, take, drop, length-take}
use lib.Seq.{sets, sets-eq, take_all, take-take, take-append_seam, drop_at, length-take-le, take-set-le, drop-set-lt, drop-set-add}
use borrow.Author.Tests.{leb-true, leb-false}
use Rattle.counting.proofs.Booleans.{by_test}

pub part_front : (n a m : ℕ) (xs : List ℕ) → a + n ≤ m → take n (drop a (take m xs)) ≡ take n (drop a xs)
part_front n zero m xs h = take-take n m xs (omega arith)
part_front n (suc a) zero xs h = absurd (omega arith)
part_front n (suc a) (suc m) [] h = refl
part_front n (suc a) (suc m) (x ∷ xs) h = part_front n a m xs (omega arith)

pub take_twice : (k n : ℕ) (xs : List ℕ) → take k (take n xs) ≡ take (min k n) xs
take_twice k n xs =
    by_test (leb k n) (λ t. let h = leb-true k n t in let e : min k n ≡ k = omega arith in rw e (take-take k n xs h))
    (λ t.
    let h = leb-false k n t in
    let e : min k n ≡ n = omega arith in
    rw e (take_all k (take n xs) (omega (arith, length-take n xs))))

-- OUTSIDE
module _ (n a : ℕ) where
  pub part_set : (xs : List ℕ) (i x : ℕ) → (a + n ≤ i) ⊎ (i < a) → take n (drop a (set xs i x)) ≡ take n (drop a xs)
  part_set xs i x h =
      ⊎_elim
      (λ l.
      let e : i ≡ a + (i - a) = omega arith in
      rw e (rw (drop-set-add a xs (i - a) x) (take-set-le n (drop a xs) (i - a) x (omega arith))))
      (λ l. ap (take n) (drop-set-lt a xs i x l)) h

  pub part_outside : (xs : List ℕ) (i : ℕ) (ys : List ℕ) → (a + n ≤ i) ⊎ (i + length ys ≤ a) → take n (drop a (sets xs i ys)) ≡ take n (drop a xs)
  part_outside xs i [] h = refl
  part_outside xs i (y ∷ ys) h =
      part_outside (set xs i y) (suc i) ys (⊎_elim (λ l. inl (omega arith)) (λ l. inr (omega arith)) h) ∙
      part_set xs i y (⊎_elim (λ l. inl l) (λ l. inr (omega arith)) h)

-- INSIDE
pub part_inside : (xs : List ℕ) (i : ℕ) (ys : List ℕ) → i + length ys ≤ length xs → take (length ys) (drop i (sets xs i ys)) ≡ ys
part_inside xs i ys h =
    let l = length-take-le i xs (omega arith) in
    rw (sets-eq ys xs i h, append_assoc, drop_at (take i xs) (ys ++ drop (i + length ys) xs) i l) (take-append_seam ys (drop (i + length ys) xs))
