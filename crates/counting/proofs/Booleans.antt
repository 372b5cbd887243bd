-- Tests, which are Booleans, taken apart and put together.
--   and_left, and_right                         what a true conjunction says of its parts
--   and_two, and_three, and_four, and_five      the same of all parts at once
--   and_both, or_right, or_cases                how true tests are put together, and a true `||` taken apart
--   or_false_left, or_false_right               what a false `||` says of its parts
--   test_same                                   two tests that imply each other are equal
--   pick_true, pick_false                       what `pick` picks
--   by_test                                     cases on a test, with its equation
--   true_false                                  no test is both true and false
--   same_or                                     two numbers are equal or not
--   list_all_is                                 what the library's `all` answers is what document 03's does
use mathlib.Core.Path.{◌≡◌, refl, sym}
use mathlib.Core.Logic.{◌⊎◌, inl, inr, ◌≢◌}
use mathlib.Core.Bool.{Bool, true, false, ◌&&◌, ◌||◌}
use mathlib.Core.List.{List, [], ◌∷◌}
use Prim.Native.Nat.{ℕ}
use native.Mathlib.Omega.{arith}
use lib.Dec.{eqb}
use borrow.Author.Tests.{eqb-true, eqb-false}
use Rattle.std.specs.List.{list_all}
use Rattle.counting.specs.Tests.{pick, all}

pub and_left : (a b : Bool) → (a && b) ≡ true → a ≡ true
and_left true b e = refl
and_left false b e = e

pub and_right : (a b : Bool) → (a && b) ≡ true → b ≡ true
and_right true b e = e
and_right false b e = cc

pub and_two : (a b : Bool) → (a && b) ≡ true → (a ≡ true) × (b ≡ true)
and_two a b e = (and_left a b e, and_right a b e)

pub and_three : (a b c : Bool) → (a && b && c) ≡ true → (a ≡ true) × (b ≡ true) × (c ≡ true)
and_three a b c e = let r = and_two (a && b) c e in let s = and_two a b r.0 in (s.0, s.1, r.1)

pub and_four : (a b c d : Bool) → (a && b && c && d) ≡ true → (a ≡ true) × (b ≡ true) × (c ≡ true) × (d ≡ true)
and_four a b c d e = let r = and_two (a && b && c) d e in let s = and_three a b c r.0 in (s.0, s.1, s.2, r.1)

pub and_five : (a b c d f : Bool) → (a && b && c && d && f) ≡ true → (a ≡ true) × (b ≡ true) × (c ≡ true) × (d ≡ true) × (f ≡ true)
and_five a b c d f e =
    let r = and_two (a && b && c && d) f e in let s = and_four a b c d r.0 in (s.0, s.1, s.2, s.3, r.1)

pub and_both : (a b : Bool) → a ≡ true → b ≡ true → (a && b) ≡ true
and_both a b p q = rw (p, q)

pub or_right : (a b : Bool) → b ≡ true → (a || b) ≡ true
or_right true b e = refl
or_right false b e = e

pub or_cases : (a b : Bool) → (a || b) ≡ true → (a ≡ true) ⊎ (b ≡ true)
or_cases true b e = inl refl
or_cases false b e = inr e

pub or_false_left : (a b : Bool) → (a || b) ≡ false → a ≡ false
or_false_left true b e = e
or_false_left false b e = refl

pub or_false_right : (a b : Bool) → (a || b) ≡ false → b ≡ false
or_false_right true b e = cc
or_false_right false b e = e

pub test_same : (a b : Bool) → (a ≡ true → b ≡ true) → (b ≡ true → a ≡ true) → a ≡ b
test_same true b h k = sym (h refl)
test_same false true h k = k refl
test_same false false h k = refl

pub pick_true : {A : Type 0} {b : Bool} (x y : A) → b ≡ true → pick b x y ≡ x
pick_true x y e = rw e

pub pick_false : {A : Type 0} {b : Bool} (x y : A) → b ≡ false → pick b x y ≡ y
pick_false x y e = rw e

pub by_test : {C : Type 0} (b : Bool) → (b ≡ true → C) → (b ≡ false → C) → C
by_test true f g = f refl
by_test false f g = g refl

pub true_false : {C : Type 0} {b : Bool} → b ≡ true → b ≡ false → C
true_false {b = b} p q = let z : ◌≡◌ {A = ℕ} 0 1 = cc in absurd (omega arith)

pub same_or : (x y : ℕ) → (x ≡ y) ⊎ (x ≢ y)
same_or x y = by_test (eqb x y) (λ e. inl (eqb-true x y e)) (λ e. inr (eqb-false x y e))

pub list_all_is : {A : Type 0} (f : A → Bool) (xs : List A) → list_all f xs ≡ all f xs
unfolding all
list_all_is f [] = refl
list_all_is f (x ∷ xs) = rw (list_all_is f xs)
