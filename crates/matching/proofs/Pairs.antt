-- Lists of pairs, and the tests of Stock that speak of them.
--   same_pair_lem                         pairs with the same numbers are one
--   same_is, is_same                      same_pair: one pair
--   has_pair_in, in_has_pair              has_pair: an element
--   in_ends, ends_in, length_ends         ends: the cameras of the elements
--   included_end, end_included            is_included: one of the ends
--   meets_end, end_meets                  meets: an end in common
--   shared_distinct, distinct_shared      none_shared: no camera twice among the ends
use mathlib.Core.Path.{◌≡◌, refl, sym, ap, subst, ◌∙◌}
use mathlib.Core.Logic.{◌⊎◌, inl, inr, ◌≢◌, ⊎_elim}
use mathlib.Core.Bool.{true, false, not}
use mathlib.Core.List.{List, [], ◌∷◌}
use Prim.Native.Nat.{ℕ, ◌*◌}
use native.Mathlib.Omega.{arith}
use lib.Dec.{eqb}
use lib.ListN.{length}
use borrow.Author.Tests.{eqb-true, eq-eqb, not-true}
use Rattle.counting.specs.Tests.{any}
use Rattle.counting.specs.Lists.{In, Distinct}
use Rattle.counting.specs.Pairs.{pair, ends}
use Rattle.counting.specs.declared.Pair.{Pair}
use Rattle.counting.proofs.Booleans.{and_two, or_right, or_cases, by_test, true_false}
use Rattle.counting.proofs.Membership.{any_some, some_any}
use Rattle.matching.specs.Stock.{same_pair, has_pair, touches, is_included, meets, none_shared}
use Rattle.matching.specs.Pairs.{EndOf}

pub same_pair_lem : (x y : Pair) → x.first ≡ y.first → x.second ≡ y.second → x ≡ y
same_pair_lem x y p q = ap (λ (u : ℕ). pair u x.second) p ∙ ap (λ (v : ℕ). pair y.first v) q

pub same_is : (x y : Pair) → same_pair x y ≡ true → x ≡ y
same_is x y e =
    let r = and_two (eqb x.first y.first) (eqb x.second y.second) e in
    same_pair_lem x y (eqb-true _ _ r.0) (eqb-true _ _ r.1)

pub is_same : (x y : Pair) → x ≡ y → same_pair x y ≡ true
is_same x y e =
    rw (eq-eqb x.first y.first (ap (λ (z : Pair). z.first) e), eq-eqb x.second y.second (ap (λ (z : Pair). z.second) e))

pub has_pair_in : (xs : List Pair) (x : Pair) → has_pair xs x ≡ true → In x xs
unfolding has_pair
has_pair_in [] x e = true_false e refl
has_pair_in (y ∷ ys) x e =
    ⊎_elim (λ t. inl (same_is x y t)) (λ t. inr (has_pair_in ys x t)) (or_cases (same_pair x y) (has_pair ys x) e)

pub in_has_pair : (xs : List Pair) (x : Pair) → In x xs → has_pair xs x ≡ true
unfolding has_pair
in_has_pair [] x m = absurd m
in_has_pair (y ∷ ys) x (inl e) = rw (is_same x y e)
in_has_pair (y ∷ ys) x (inr m) = or_right (same_pair x y) (has_pair ys x) (in_has_pair ys x m)

-- ENDS
pub in_ends : (xs : List Pair) (x : Pair) (k : ℕ) → In x xs → EndOf x k → In k (ends xs)
unfolding ends
in_ends [] x k m e = absurd m
in_ends (y ∷ ys) x k (inl q) (inl e) = inl (e ∙ ap (λ (z : Pair). z.first) q)
in_ends (y ∷ ys) x k (inl q) (inr e) = inr (inl (e ∙ ap (λ (z : Pair). z.second) q))
in_ends (y ∷ ys) x k (inr m) e = inr (inr (in_ends ys x k m e))

pub ends_in : (xs : List Pair) (k : ℕ) → In k (ends xs) → (x : Pair) × In x xs × EndOf x k
unfolding ends
ends_in [] k m = absurd m
ends_in (y ∷ ys) k (inl e) = (y, inl refl, inl e)
ends_in (y ∷ ys) k (inr (inl e)) = (y, inl refl, inr e)
ends_in (y ∷ ys) k (inr (inr m)) = let r = ends_in ys k m in (r.0, inr r.1, r.2)

pub length_ends : (xs : List Pair) → length (ends xs) ≡ 2 * length xs
unfolding ends
length_ends [] = refl
length_ends (x ∷ xs) = omega (arith, length_ends xs)

touches_end : (x : Pair) (k : ℕ) → touches x k ≡ true → EndOf x k
touches_end x k e =
    ⊎_elim (λ t. inl (sym (eqb-true _ _ t))) (λ t. inr (sym (eqb-true _ _ t))) (or_cases (eqb x.first k) (eqb x.second k) e)

end_touches : (x : Pair) (k : ℕ) → EndOf x k → touches x k ≡ true
end_touches x k (inl e) = rw (eq-eqb x.first k (sym e))
end_touches x k (inr e) = or_right (eqb x.first k) (eqb x.second k) (eq-eqb x.second k (sym e))

pub included_end : (xs : List Pair) (k : ℕ) → is_included xs k ≡ true → In k (ends xs)
included_end xs k e =
    let r = any_some (λ (x : Pair). touches x k) xs e in in_ends xs r.0 k r.1 (touches_end r.0 k r.2)

pub end_included : (xs : List Pair) (k : ℕ) → In k (ends xs) → is_included xs k ≡ true
end_included xs k m =
    let r = ends_in xs k m in some_any (λ (x : Pair). touches x k) r.0 xs r.1 (end_touches r.0 k r.2)

pub meets_end : (x : Pair) (xs : List Pair) → any (meets x) xs ≡ true → In x.first (ends xs) ⊎ In x.second (ends xs)
meets_end x xs e =
    let r = any_some (meets x) xs e in
    let y = r.0 in
    let go : (k : ℕ) → EndOf y k → touches x k ≡ true → In x.first (ends xs) ⊎ In x.second (ends xs) = λ k z t.
    ⊎_elim (λ q. inl (in_ends xs y x.first r.1 (subst (λ (w : ℕ). EndOf y w) q z)))
    (λ q. inr (in_ends xs y x.second r.1 (subst (λ (w : ℕ). EndOf y w) q z))) (touches_end x k t) in
    ⊎_elim (go y.first (inl refl)) (go y.second (inr refl)) (or_cases (touches x y.first) (touches x y.second) r.2)

pub end_meets : (x : Pair) (xs : List Pair) (k : ℕ) → EndOf x k → In k (ends xs) → any (meets x) xs ≡ true
end_meets x xs k e m =
    let r = ends_in xs k m in
    let y = r.0 in
    some_any (meets x) y xs r.1
    (⊎_elim (λ q. let t : touches x y.first ≡ true = rw (← q) (end_touches x k e) in rw t)
    (λ q. or_right (touches x y.first) (touches x y.second) (rw (← q) (end_touches x k e))) r.2)

-- NO CAMERA IN TWO
pub shared_distinct : (xs : List Pair) → ((x : Pair) → In x xs → x.first ≢ x.second) → none_shared xs ≡ true → Distinct (ends xs)
unfolding none_shared ends
shared_distinct [] h e = tt
shared_distinct (x ∷ xs) h e =
    let r = and_two (not (any (meets x) xs)) (none_shared xs) e in
    let out : (k : ℕ) → EndOf x k → In k (ends xs) → ⊥ = λ k z m. true_false (end_meets x xs k z m) (not-true (any (meets x) xs) r.0) in (
      ⊎_elim (h x (inl refl)) (out x.first (inl refl)),
      (out x.second (inr refl), shared_distinct xs (λ y m. h y (inr m)) r.1),
    )

pub distinct_shared : (xs : List Pair) → Distinct (ends xs) → none_shared xs ≡ true
unfolding none_shared ends
distinct_shared [] d = refl
distinct_shared (x ∷ xs) d =
    let none : any (meets x) xs ≡ false =
    by_test (any (meets x) xs) (λ t. absurd (⊎_elim (λ m. d.0 (inr m)) (λ m. d.1.0 m) (meets_end x xs t))) (λ t. t) in
    rw none (distinct_shared xs d.1.1)
