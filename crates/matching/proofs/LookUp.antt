-- The look-up of a pair among fits: its promises, and what one fit does to it.
--   looked_step, found_step      a smaller fit is passed
--   looked_stop, found_stop      the look-up ends at any other
--   look_counts                  LookCounts: the number by places
--   look_bounded, look_passes    LookBounded and LookPasses, by those places
--   found_last                   FoundLast
--   look_finds, all_found        LookFinds; so where fits rise, all pairs of a list are found exactly if all are fits
--   known_look_ups               KnownLookUps
use mathlib.Core.Path.{◌≡◌, refl, sym, ap, subst, fun_ext, ◌∙◌}
use mathlib.Core.Logic.{◌⊎◌, inl, inr, ⊎_elim}
use mathlib.Core.Bool.{Bool, true, false, or-false}
use mathlib.Core.List.{List, [], ◌∷◌}
use Prim.Native.Nat.{ℕ, zero, suc, ◌≤◌, ◌<◌}
use native.Mathlib.Omega.{arith}
use lib.Dec.{ltb}
use lib.ListN.{get_or}
use borrow.Author.Tests.{ltb-true, ltb-false}
use Rattle.counting.specs.Tests.{all}
use Rattle.counting.specs.Lists.{In}
use Rattle.counting.specs.Pairs.{no_pair}
use Rattle.counting.specs.declared.Pair.{Pair}
use Rattle.counting.proofs.Membership.{get_d_in}
use Rattle.counting.proofs.Booleans.{by_test, test_same, true_false}
use Rattle.matching.specs.Stock.{same_pair, has_pair, pair_before, pairs_rise}
use Rattle.matching.specs.Pairs.{Before, Rising}
use Rattle.matching.specs.LookUp.{looked_at, looked, is_found, EqualOrLarger, EndsAt, LooksUpTo, LookCounts, LookBounded, LookPasses, FoundLast, LookFinds, KnownLookUps}
use Rattle.matching.proofs.Pairs.{same_is, is_same, has_pair_in, in_has_pair}
use Rattle.matching.proofs.Rising.{before_is, is_before, before_not, not_before, rise_rising}

-- ONE FIT
-- a fit is passed, or the look-up ends at it, and not both
passed_or_end : (y x : Pair) → Before y x ⊎ EqualOrLarger y x
passed_or_end y x = by_test (pair_before y x) (λ t. inl (before_is y x t)) (λ t. inr (not_before y x t))

not_both : (y x : Pair) → Before y x → EqualOrLarger y x → ⊥
not_both y x b (inl e) = let c : Before x x = subst (λ (z : Pair). Before z x) e b in before_not x x c c
not_both y x b (inr l) = before_not x y l b

not_same : (y x : Pair) → Before y x → same_pair x y ≡ false
not_same y x b = by_test (same_pair x y) (λ t. absurd (not_both y x b (inl (sym (same_is x y t))))) (λ t. t)

ends_at : (y x : Pair) → EqualOrLarger y x → pair_before y x ≡ false
ends_at y x l = by_test (pair_before y x) (λ t. absurd (not_both y x (before_is y x t) l)) (λ t. t)

module _ (y : Pair) (ys : List Pair) (x : Pair) where
  pub looked_step : Before y x → looked (y ∷ ys) x ≡ suc (looked ys x)
  unfolding looked_at
  looked_step b = rw (is_before y x b)

  pub found_step : Before y x → is_found (y ∷ ys) x ≡ is_found ys x
  unfolding looked_at has_pair
  found_step b = rw (is_before y x b, not_same y x b)

  pub looked_stop : EqualOrLarger y x → looked (y ∷ ys) x ≡ 1
  unfolding looked_at
  looked_stop l = rw (ends_at y x l)

  pub found_stop : EqualOrLarger y x → is_found (y ∷ ys) x ≡ same_pair x y
  unfolding looked_at has_pair
  found_stop l = rw (ends_at y x l) (or-false (same_pair x y))

-- THE NUMBER BY PLACES
ends_next : (y : Pair) (ys : List Pair) (x : Pair) (i : ℕ) → Before y x → EndsAt ys x i → EndsAt (y ∷ ys) x (suc i)
ends_next y ys x i b E = record { below = omega (arith, E.below); here = E.here; passed = passed }
  where
    passed : (j : ℕ) → j < suc i → Before (get_or (y ∷ ys) j no_pair) x
    passed zero h = b
    passed (suc j) h = E.passed j (omega arith)

look_places : (fs : List Pair) (x : Pair) → LooksUpTo fs x (looked fs x)
unfolding looked_at
look_places [] x = inr (refl, λ y m. absurd m)
look_places (y ∷ ys) x =
    ⊎_elim
    (λ b.
    let e = looked_step y ys x b in
    ⊎_elim (λ r. inl (suc r.0, e ∙ ap suc r.1, ends_next y ys x r.0 b r.2))
    (λ r. inr (e ∙ ap suc r.0, λ z. ⊎_elim (λ q. rw q b) (r.1 z))) (look_places ys x))
    (λ l. inl (0, looked_stop y ys x l, record { below = omega arith; here = l; passed = λ j h. absurd (omega arith) }))
    (passed_or_end y x)

no_later : (fs : List Pair) (x : Pair) (i j : ℕ) → EndsAt fs x i → EndsAt fs x j → j ≤ i
no_later fs x i j E F =
    by_test (ltb i j) (λ t. absurd (not_both (get_or fs i no_pair) x (F.passed i (ltb-true i j t)) E.here)) (λ t. ltb-false i j t)

not_all : (fs : List Pair) (x : Pair) (i : ℕ) → EndsAt fs x i → ((y : Pair) → In y fs → Before y x) → ⊥
not_all fs x i E A = not_both (get_or fs i no_pair) x (A (get_or fs i no_pair) (get_d_in fs no_pair i E.below)) E.here

one_number : (fs : List Pair) (x : Pair) (k m : ℕ) → LooksUpTo fs x k → LooksUpTo fs x m → k ≡ m
one_number fs x k m (inl a) (inl b) =
    let p = no_later fs x a.0 b.0 a.2 b.2 in
    let q = no_later fs x b.0 a.0 b.2 a.2 in
    omega (arith, a.1, b.1)
one_number fs x k m (inl a) (inr b) = absurd (not_all fs x a.0 a.2 b.1)
one_number fs x k m (inr a) (inl b) = absurd (not_all fs x b.0 b.2 a.1)
one_number fs x k m (inr a) (inr b) = a.0 ∙ sym b.0

pub look_counts : LookCounts
look_counts fs x k =
    (λ e. subst (λ (n : ℕ). LooksUpTo fs x n) e (look_places fs x), λ l. one_number fs x (looked fs x) k (look_places fs x) l)

pub look_bounded : LookBounded
look_bounded fs x =
    ⊎_elim (λ r. let h = r.2.below in let e = r.1 in (omega arith, λ l. omega arith))
    (λ r. let e = r.0 in (omega arith, λ l. omega arith)) (look_places fs x)

pub look_passes : LookPasses
look_passes fs x i h =
    ⊎_elim (λ r. r.2.passed i (omega (arith, r.1))) (λ r. r.1 (get_or fs i no_pair) (get_d_in fs no_pair i (omega (arith, r.0))))
    (look_places fs x)

-- WHAT IS FOUND
found_at : (fs : List Pair) (x : Pair) → is_found fs x ≡ true → (i : ℕ) × (looked fs x ≡ suc i) × (get_or fs i no_pair ≡ x)
unfolding looked_at has_pair
found_at [] x e = true_false e refl
found_at (y ∷ ys) x e =
    ⊎_elim
    (λ b. let r = found_at ys x (sym (found_step y ys x b) ∙ e) in (suc r.0, looked_step y ys x b ∙ ap suc r.1, r.2))
    (λ l. (0, looked_stop y ys x l, sym (same_is x y (sym (found_stop y ys x l) ∙ e)))) (passed_or_end y x)

at_found : (fs : List Pair) (x : Pair) (i : ℕ) → looked fs x ≡ suc i → get_or fs i no_pair ≡ x → is_found fs x ≡ true
unfolding looked_at
at_found [] x i e q = absurd (omega arith)
at_found (y ∷ ys) x zero e q = found_stop y ys x (inl q) ∙ is_same x y (sym q)
at_found (y ∷ ys) x (suc i) e q =
    ⊎_elim (λ b. found_step y ys x b ∙ at_found ys x i (let s = looked_step y ys x b in omega arith) q)
    (λ l. absurd (let s = looked_stop y ys x l in omega arith)) (passed_or_end y x)

pub found_last : FoundLast
found_last fs x = (found_at fs x, λ r. at_found fs x r.0 r.1 r.2)

in_found : (fs : List Pair) (x : Pair) → Rising fs → In x fs → is_found fs x ≡ true
in_found [] x r m = absurd m
in_found (y ∷ ys) x r (inl e) = found_stop y ys x (inl (sym e)) ∙ is_same x y e
in_found (y ∷ ys) x r (inr m) = found_step y ys x (r.1 x m) ∙ in_found ys x r.2 m

pub look_finds : LookFinds
look_finds fs x e =
    test_same (is_found fs x) (has_pair fs x)
    (λ t.
    let r = found_at fs x t in
    let l = (look_bounded fs x).0 in
    in_has_pair fs x (subst (λ (z : Pair). In z fs) r.2 (get_d_in fs no_pair r.0 (omega (arith, r.1)))))
    (λ t. in_found fs x (rise_rising fs e) (has_pair_in fs x t))

pub all_found : (fs ps : List Pair) → pairs_rise fs ≡ true → all (is_found fs) ps ≡ all (has_pair fs) ps
all_found fs ps e = ap (λ (h : Pair → Bool). all h ps) (fun_ext (λ x. look_finds fs x e))

pub known_look_ups : KnownLookUps
unfolding looked_at has_pair
known_look_ups = ((refl, refl), (refl, refl), (refl, refl), (refl, refl), (refl, refl), (refl, refl), (refl, refl))
