-- Lists without repeats compared by length.
--   distinct_within           within another list: no longer than it
--   distinct_image            the image of such a list under an injection
--   injection                 an injection between lists bounds lengths
--   onto                      an injection into a list that is no longer is onto
--   keep_le, keep_same        a stronger test keeps no more; where it keeps as many, the tests agree
use mathlib.Core.Path.{◌≡◌, refl, sym, ap, subst}
use mathlib.Core.Logic.{inl, inr, ⊎_elim}
use mathlib.Core.Bool.{Bool, true}
use mathlib.Core.List.{List, [], ◌∷◌, ◌++◌}
use Prim.Native.Nat.{ℕ, suc, ◌≤◌}
use native.Mathlib.Omega.{arith}
use lib.ListN.{length, length-append}
use Rattle.counting.specs.Tests.{among, keep}
use Rattle.counting.specs.Lists.{In, Within, Distinct, InjectiveOn, image}
use Rattle.counting.proofs.Booleans.{by_test, true_false}
use Rattle.counting.proofs.Membership.{in_left, in_right, in_append, in_split, among_in, in_among}
use Rattle.counting.proofs.Kept.{in_keep, keep_in, keep_distinct}

pub distinct_within : (xs ys : List ℕ) → Distinct xs → Within (λ (x : ℕ). In x ys) xs → length xs ≤ length ys
distinct_within [] ys d w = omega arith
distinct_within (x ∷ xs) ys d w =
    let r = in_split x ys (w x (inl refl)) in
    let ls = r.0 in
    let rs = r.1 in
    let rest : Within (λ (z : ℕ). In z (ls ++ rs)) xs = λ z m.
    ⊎_elim (λ k. in_left z ls rs k) (⊎_elim (λ e. absurd (d.0 (subst (λ (k : ℕ). In k xs) e m))) (λ k. in_right z ls rs k))
    (in_append z ls (x ∷ rs) (subst (λ (l : List ℕ). In z l) r.2 (w z (inr m)))) in
    omega
    (arith, distinct_within xs (ls ++ rs) d.1 rest, length-append ls rs, length-append ls (x ∷ rs), ap (λ (l : List ℕ). length l) r.2)

-- IMAGES
in_image : (f : ℕ → ℕ) (xs : List ℕ) (y : ℕ) → In y (image f xs) → (x : ℕ) × In x xs × (y ≡ f x)
in_image f [] y m = absurd m
in_image f (x ∷ xs) y (inl e) = (x, inl refl, e)
in_image f (x ∷ xs) y (inr m) = let r = in_image f xs y m in (r.0, inr r.1, r.2)

length_image : (f : ℕ → ℕ) (xs : List ℕ) → length (image f xs) ≡ length xs
length_image f [] = refl
length_image f (x ∷ xs) = ap suc (length_image f xs)

pub distinct_image : (f : ℕ → ℕ) (xs : List ℕ) → Distinct xs → InjectiveOn f xs → Distinct (image f xs)
distinct_image f [] d inj = tt
distinct_image f (x ∷ xs) d inj = (
  λ m.
      let r = in_image f xs (f x) m in
      d.0 (subst (λ (z : ℕ). In z xs) (inj r.0 x (inr r.1) (inl refl) (sym r.2)) r.1),
  distinct_image f xs d.1 (λ y z m n. inj y z (inr m) (inr n)),
)

-- INJECTIONS
module _ (f : ℕ → ℕ) (xs ys : List ℕ) (d : Distinct xs) (inj : InjectiveOn f xs) (to : (x : ℕ) → In x xs → In (f x) ys) where
  image_within : Within (λ (y : ℕ). In y ys) (image f xs)
  image_within y m = let r = in_image f xs y m in subst (λ (z : ℕ). In z ys) (sym r.2) (to r.0 r.1)

  pub injection : length xs ≤ length ys
  injection = omega (arith, length_image f xs, distinct_within (image f xs) ys (distinct_image f xs d inj) image_within)

  pub onto : length ys ≤ length xs → (y : ℕ) → In y ys → (x : ℕ) × In x xs × (f x ≡ y)
  onto l y m =
      by_test (among y (image f xs))
      (λ t. let r = in_image f xs y (among_in y (image f xs) t) in (r.0, r.1, sym r.2))
      (λ t.
      absurd
      (omega (
        arith,
        length_image f xs,
        distinct_within (y ∷ image f xs) ys (λ k. true_false (in_among y (image f xs) k) t, distinct_image f xs d inj)
            (λ z. ⊎_elim (λ e. rw e m) (image_within z)),
      )))

-- TESTS
module _ (f h : ℕ → Bool) (xs : List ℕ) (d : Distinct xs) (i : (x : ℕ) → In x xs → f x ≡ true → h x ≡ true) where
  kept_too : (x : ℕ) → In x (keep f xs) → In x (keep h xs)
  kept_too x m = let r = in_keep f xs x m in keep_in h xs x r.0 (i x r.0 r.1)

  pub keep_le : length (keep f xs) ≤ length (keep h xs)
  keep_le = distinct_within (keep f xs) (keep h xs) (keep_distinct f xs d) kept_too

  pub keep_same : length (keep h xs) ≤ length (keep f xs) → (x : ℕ) → In x xs → h x ≡ true → f x ≡ true
  keep_same l x m t =
      let r =
      onto (λ (z : ℕ). z) (keep f xs) (keep h xs) (keep_distinct f xs d) (λ y z a b e. e) kept_too l x (keep_in h xs x m t) in
      subst (λ (z : ℕ). f z ≡ true) r.2 (in_keep f xs r.0 r.1).1
