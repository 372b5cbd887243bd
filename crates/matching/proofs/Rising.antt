-- Rising lists of pairs, and the order in which they rise.
--   before_is, is_before          the test pair_before
--   before_not                    of two pairs only one stands before the other
--   not_before                    what is not before a pair is it, or stands behind it
--   rise_rising, rising_rise      the test pairs_rise
--   rising_ordered                the smaller camera first
--   keep_rising                   what a test keeps rises
--   rising_same                   rising lists with the same elements are one
use mathlib.Core.Path.{◌≡◌, refl, sym, ap, subst, ◌∙◌}
use mathlib.Core.Logic.{◌⊎◌, inl, inr, ⊎_elim}
use mathlib.Core.Bool.{Bool, true, false, ◌&&◌}
use mathlib.Core.List.{List, [], ◌∷◌}
use Prim.Native.Nat.{◌≤◌, ◌<◌}
use native.Mathlib.Omega.{arith}
use lib.Dec.{ltb, eqb}
use borrow.Author.Tests.{eqb-true, eq-eqb, ltb-true, ltb-false, lt-ltb}
use Rattle.counting.specs.Tests.{keep}
use Rattle.counting.specs.Lists.{In}
use Rattle.counting.specs.declared.Pair.{Pair}
use Rattle.counting.proofs.Booleans.{and_two, and_three, and_both, or_right, or_cases, or_false_left, or_false_right, by_test}
use Rattle.counting.proofs.Kept.{in_keep}
use Rattle.matching.specs.Stock.{pair_before, pairs_rise}
use Rattle.matching.specs.Pairs.{Before, Rising}
use Rattle.matching.proofs.Pairs.{same_pair_lem}

pub before_is : (x y : Pair) → pair_before x y ≡ true → Before x y
before_is x y e =
    ⊎_elim (λ t. inl (ltb-true _ _ t))
    (λ t. let r = and_two (eqb x.first y.first) (ltb x.second y.second) t in inr (eqb-true _ _ r.0, ltb-true _ _ r.1))
    (or_cases (ltb x.first y.first) (eqb x.first y.first && ltb x.second y.second) e)

pub is_before : (x y : Pair) → Before x y → pair_before x y ≡ true
is_before x y (inl h) = rw (lt-ltb x.first y.first h)
is_before x y (inr h) =
    or_right (ltb x.first y.first) _ (and_both _ _ (eq-eqb x.first y.first h.0) (lt-ltb x.second y.second h.1))

before_trans : (x y z : Pair) → Before x y → Before y z → Before x z
before_trans x y z (inl h) (inl k) = inl (omega arith)
before_trans x y z (inl h) (inr k) = inl (omega (arith, k.0))
before_trans x y z (inr h) (inl k) = inl (omega (arith, h.0))
before_trans x y z (inr h) (inr k) = inr (h.0 ∙ k.0, omega (arith, h.1, k.1))

pub before_not : (x y : Pair) → Before x y → Before y x → ⊥
before_not x y (inl a) (inl b) = omega arith
before_not x y (inl a) (inr b) = omega (arith, b.0)
before_not x y (inr a) (inl b) = omega (arith, a.0)
before_not x y (inr a) (inr b) = omega (arith, a.1, b.1)

pub not_before : (y x : Pair) → pair_before y x ≡ false → (y ≡ x) ⊎ Before x y
not_before y x e =
    let p : x.first ≤ y.first = ltb-false y.first x.first (or_false_left (ltb y.first x.first) _ e) in
    by_test (ltb x.first y.first) (λ t. inr (inl (ltb-true _ _ t)))
    (λ t.
    let q : y.first ≡ x.first = let l = ltb-false x.first y.first t in omega arith in
    let r : ltb y.second x.second ≡ false =
    rw (eq-eqb y.first x.first q) at (or_false_right (ltb y.first x.first) (eqb y.first x.first && ltb y.second x.second) e) in
    let s : x.second ≤ y.second = ltb-false y.second x.second r in
    by_test (ltb x.second y.second) (λ u. inr (inr (sym q, ltb-true _ _ u)))
    (λ u. inl (same_pair_lem y x q (let l = ltb-false x.second y.second u in omega arith))))

pub rise_rising : (xs : List Pair) → pairs_rise xs ≡ true → Rising xs
unfolding pairs_rise
rise_rising [] e = tt
rise_rising (x ∷ []) e = (ltb-true _ _ e, λ y m. absurd m, tt)
rise_rising (x ∷ y ∷ rest) e =
    let r = and_three (ltb x.first x.second) (pair_before x y) (pairs_rise (y ∷ rest)) e in
    let ih = rise_rising (y ∷ rest) r.2 in
    let b = before_is x y r.1 in
    (ltb-true _ _ r.0, λ z. ⊎_elim (λ q. rw q b) (λ m. before_trans x y z b (ih.1 z m)), ih)

pub rising_rise : (xs : List Pair) → Rising xs → pairs_rise xs ≡ true
unfolding pairs_rise
rising_rise [] r = refl
rising_rise (x ∷ []) r = lt-ltb _ _ r.0
rising_rise (x ∷ y ∷ rest) r =
    and_both _ _ (and_both _ _ (lt-ltb _ _ r.0) (is_before x y (r.1 y (inl refl)))) (rising_rise (y ∷ rest) r.2)

pub rising_ordered : (xs : List Pair) → Rising xs → (x : Pair) → In x xs → x.first < x.second
rising_ordered [] r x m = absurd m
rising_ordered (y ∷ ys) r x (inl e) = rw e r.0
rising_ordered (y ∷ ys) r x (inr m) = rising_ordered ys r.2 x m

pub keep_rising : (f : Pair → Bool) (xs : List Pair) → Rising xs → Rising (keep f xs)
unfolding keep
keep_rising f [] r = tt
keep_rising f (x ∷ xs) r =
    by_test (f x) (λ s. rw s (r.0, λ y m. r.1 y (in_keep f xs y m).0, keep_rising f xs r.2)) (λ s. rw s (keep_rising f xs r.2))

-- the first of each is the first of the other, and is not met again
pub rising_same : (xs ys : List Pair) → Rising xs → Rising ys → ((z : Pair) → In z xs → In z ys) → ((z : Pair) → In z ys → In z xs) → xs ≡ ys
rising_same [] [] r s f h = refl
rising_same [] (y ∷ ys) r s f h = absurd (h y (inl refl))
rising_same (x ∷ xs) [] r s f h = absurd (f x (inl refl))
rising_same (x ∷ xs) (y ∷ ys) r s f h =
    let e : x ≡ y =
    ⊎_elim (λ a. a) (λ a. ⊎_elim (λ b. sym b) (λ b. absurd (before_not x y (r.1 y b) (s.1 x a))) (h y (inl refl))) (f x (inl refl)) in
    let not_first : (z w : Pair) → Before z w → w ≡ z → ⊥ = λ z w b a.
    let c : Before z z = subst (λ (v : Pair). Before z v) a b in before_not z z c c in
    let rest : xs ≡ ys = rising_same xs ys r.2 s.2
    (λ z m. ⊎_elim (λ a. absurd (not_first x z (r.1 z m) (a ∙ sym e))) (λ a. a) (f z (inr m)))
    (λ z m. ⊎_elim (λ a. absurd (not_first y z (s.1 z m) (a ∙ e))) (λ a. a) (h z (inr m))) in
    ap (λ (w : Pair). w ∷ xs) e ∙ ap (λ (w : List Pair). y ∷ w) rest
