-- The elements that pass a test.
--   in_keep, keep_in     an element is kept exactly if it passes
--   keep_distinct        no repeats come about
--   keep_or              of two tests that exclude each other: the numbers kept add up
--   found                what `find` finds passes, where anything does
use mathlib.Core.Path.{◌≡◌, refl, subst}
use mathlib.Core.Logic.{inl, inr}
use mathlib.Core.Bool.{Bool, true, false, ◌||◌}
use mathlib.Core.List.{List, [], ◌∷◌}
use Prim.Native.Nat.{ℕ, ◌+◌}
use native.Mathlib.Omega.{arith}
use lib.ListN.{length}
use Rattle.counting.specs.Tests.{keep}
use Rattle.counting.specs.Lists.{In, Distinct, find}
use Rattle.counting.proofs.Booleans.{by_test}

pub in_keep : {A : Type 0} (f : A → Bool) (xs : List A) (x : A) → In x (keep f xs) → In x xs × (f x ≡ true)
unfolding keep
in_keep f [] x m = absurd m
in_keep {A = A} f (y ∷ ys) x m =
    by_test (f y) (λ t. kept t (in_keep f ys x) (rw t at m)) (λ t. let r = in_keep f ys x (rw t at m) in (inr r.0, r.1))
  where
    kept : f y ≡ true → (In x (keep f ys) → In x ys × (f x ≡ true)) → In x (y ∷ keep f ys) → In x (y ∷ ys) × (f x ≡ true)
    kept t ih (inl e) = (inl e, rw e t)
    kept t ih (inr k) = let r = ih k in (inr r.0, r.1)

pub keep_in : {A : Type 0} (f : A → Bool) (xs : List A) (x : A) → In x xs → f x ≡ true → In x (keep f xs)
unfolding keep
keep_in f [] x m t = absurd m
keep_in f (y ∷ ys) x (inl e) t = rw (← e, t) (inl refl)
keep_in f (y ∷ ys) x (inr m) t = by_test (f y) (λ s. rw s (inr (keep_in f ys x m t))) (λ s. rw s (keep_in f ys x m t))

pub keep_distinct : (f : ℕ → Bool) (xs : List ℕ) → Distinct xs → Distinct (keep f xs)
unfolding keep
keep_distinct f [] d = tt
keep_distinct f (y ∷ ys) d =
    by_test (f y) (λ s. rw s (λ m. d.0 (in_keep f ys y m).0, keep_distinct f ys d.1)) (λ s. rw s (keep_distinct f ys d.1))

pub keep_or : {A : Type 0} (f h : A → Bool) (xs : List A) → ((x : A) → In x xs → f x ≡ true → h x ≡ false) →
    length (keep (λ (x : A). f x || h x) xs) ≡ length (keep f xs) + length (keep h xs)
unfolding keep
keep_or f h [] a = refl
keep_or f h (x ∷ xs) a =
    let ih = keep_or f h xs (λ y m. a y (inr m)) in
    by_test (f x) (λ s. rw (s, a x (inl refl) s) (omega (arith, ih)))
    (λ s. by_test (h x) (λ t. rw (s, t) (omega (arith, ih))) (λ t. rw (s, t) ih))

pub found : (f : ℕ → Bool) (xs : List ℕ) (x : ℕ) → In x xs → f x ≡ true → In (find f xs) xs × (f (find f xs) ≡ true)
unfolding find
found f [] x m t = absurd m
found f (y ∷ ys) x (inl e) t = let s : f y ≡ true = rw e at t in rw s (inl refl, s)
found f (y ∷ ys) x (inr m) t =
    by_test (f y) (λ s. rw s (inl refl, s))
    (λ s. let r = found f ys x m t in
    let e : find f ys ≡ find f (y ∷ ys) = rw s in
    subst (λ (z : ℕ). In z (y ∷ ys) × (f z ≡ true)) e (inr r.0, r.1))
