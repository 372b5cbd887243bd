-- A list reversed with a map at each element.
--   in_reverse, reverse_in      its elements are the images of the list's
--   reverse_append              of two lists joined
--   reverse_twice               an involution, reversed twice, gives the list back
--   distinct_reverse            an injective map makes no repeats
--   length_reverse              as long as the list
--   get_d_reverse               the element at an index, counted from the end
use mathlib.Core.Path.{◌≡◌, refl, sym, ap, subst, ◌∙◌}
use mathlib.Core.Logic.{◌⊎◌, inl, inr}
use mathlib.Core.List.{List, [], ◌∷◌, ◌++◌, append_assoc, append-nil}
use Prim.Native.Nat.{ℕ, suc, ◌-◌, ◌<◌}
use native.Mathlib.Omega.{arith}
use lib.Dec.{ltb}
use lib.ListN.{length, get_or, length-append, get_or-append}
use lib.Seq.{get_or-append_seam}
use borrow.Author.Tests.{ltb-true, ltb-false}
use Rattle.counting.specs.Lists.{In, Apart, Distinct, reverse_map}
use Rattle.counting.proofs.Booleans.{by_test}
use Rattle.counting.proofs.Membership.{in_left, in_right, in_append}
use Rattle.counting.proofs.NoRepeats.{distinct_append}

pub in_reverse : (f : ℕ → ℕ) (x : ℕ) (xs : List ℕ) → In x (reverse_map f xs) → (y : ℕ) × (In y xs) × (x ≡ f y)
in_reverse f x [] m = absurd m
in_reverse f x (z ∷ zs) m = go (in_append x (reverse_map f zs) (f z ∷ []) m) (in_reverse f x zs)
  where
    go : In x (reverse_map f zs) ⊎ In x (f z ∷ []) → (In x (reverse_map f zs) → (y : ℕ) × (In y zs) × (x ≡ f y)) → (y : ℕ) × (In y (z ∷ zs)) × (x ≡ f y)
    go (inl a) ih = let r = ih a in (r.0, inr r.1, r.2)
    go (inr (inl e)) ih = (z, inl refl, e)
    go (inr (inr b)) ih = absurd b

pub reverse_in : (f : ℕ → ℕ) (x : ℕ) (xs : List ℕ) → In x xs → In (f x) (reverse_map f xs)
reverse_in f x [] m = absurd m
reverse_in f x (z ∷ zs) (inl e) = in_right (f x) (reverse_map f zs) (f z ∷ []) (inl (ap f e))
reverse_in f x (z ∷ zs) (inr m) = in_left (f x) (reverse_map f zs) (f z ∷ []) (reverse_in f x zs m)

pub reverse_append : (f : ℕ → ℕ) (xs ys : List ℕ) → reverse_map f (xs ++ ys) ≡ reverse_map f ys ++ reverse_map f xs
reverse_append f [] ys = sym (append-nil (reverse_map f ys))
reverse_append f (x ∷ xs) ys = rw (reverse_append f xs ys) (append_assoc (reverse_map f ys) (reverse_map f xs) (f x ∷ []))

pub reverse_twice : (f : ℕ → ℕ) (xs : List ℕ) → ((x : ℕ) → f (f x) ≡ x) → reverse_map f (reverse_map f xs) ≡ xs
reverse_twice f [] h = refl
reverse_twice f (x ∷ xs) h = rw (reverse_append f (reverse_map f xs) (f x ∷ []), h x, reverse_twice f xs h)

pub distinct_reverse : (f : ℕ → ℕ) (xs : List ℕ) → ((x y : ℕ) → f x ≡ f y → x ≡ y) → Distinct xs → Distinct (reverse_map f xs)
distinct_reverse f [] inj d = tt
distinct_reverse f (x ∷ xs) inj d =
    distinct_append (reverse_map f xs) (f x ∷ []) (distinct_reverse f xs inj d.1) (λ m. m, tt) apart
  where
    apart : Apart (reverse_map f xs) (f x ∷ [])
    apart z m (inl e) =
        let r = in_reverse f z xs m in
        d.0 (subst (λ (k : ℕ). In k xs) (inj r.0 x (sym r.2 ∙ e)) r.1)
    apart z m (inr b) = b

pub length_reverse : (f : ℕ → ℕ) (xs : List ℕ) → length (reverse_map f xs) ≡ length xs
length_reverse f [] = refl
length_reverse f (x ∷ xs) = length-append (reverse_map f xs) (f x ∷ []) ∙ omega (arith, length_reverse f xs)

pub get_d_reverse : (f : ℕ → ℕ) (xs : List ℕ) (j : ℕ) → j < length xs → get_or (reverse_map f xs) j 0 ≡ f (get_or xs (length xs - 1 - j) 0)
get_d_reverse f [] j h = absurd (omega arith)
get_d_reverse f (x ∷ xs) j h =
    by_test (ltb j (length xs))
    (λ t.
    let l = ltb-true j (length xs) t in
    let e : suc (length xs) - 1 - j ≡ suc (length xs - 1 - j) = omega arith in
    rw e (get_or-append (reverse_map f xs) (f x ∷ []) 0 j (omega (arith, length_reverse f xs)) ∙ get_d_reverse f xs j l))
    (λ t.
    let e : suc (length xs) - 1 - j ≡ 0 = omega (arith, ltb-false j (length xs) t) in
    let q : j ≡ length (reverse_map f xs) = omega (arith, length_reverse f xs, ltb-false j (length xs) t) in
    rw (e, q) (get_or-append_seam (reverse_map f xs) (f x) [] 0))
