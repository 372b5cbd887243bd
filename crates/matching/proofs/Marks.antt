-- A camera's mark, by largest pairings and by its fits.
--   pairing_mark_zero, pairing_mark_one    document 03's mark: 0 left over by some largest pairing; 1 by none, and it fits a camera that one leaves over
--   mark_low                               a mark is at most 3
--   mark_with_fit, mark_without_fit        a camera with a fit has document 03's mark; one without has 3, and had 0
--   same_mark_fit                          of two stocks in which a camera has the same mark it has a fit in both or in none
--   mark_kept                              marks 1 and 2 are document 03's
--   mark_means                             what each mark says of a camera
use mathlib.Core.Path.{◌≡◌, refl, sym, subst, ◌∙◌}
use mathlib.Core.Logic.{inl, inr, ⊎_elim, ◌↔◌}
use mathlib.Core.Bool.{true, false, ◌&&◌}
use mathlib.Core.List.{List}
use Prim.Native.Nat.{ℕ, zero, suc, ◌≤◌, ◌<◌}
use native.Mathlib.Omega.{arith}
use lib.Dec.{eqb}
use borrow.Author.Tests.{eqb-true, eq-eqb}
use Rattle.counting.specs.Tests.{all, any}
use Rattle.counting.specs.Lists.{In}
use Rattle.counting.specs.Pairs.{pair}
use Rattle.counting.specs.declared.Pair.{Pair}
use Rattle.counting.proofs.Booleans.{and_two, and_both, or_right, or_cases, by_test, true_false, same_or}
use Rattle.counting.proofs.Membership.{any_some, some_any, all_each}
use Rattle.matching.specs.Stock.{has_pair, none_shared, touches, is_included, is_pairing, left_over, fits_left_over, pairing_mark, mark_of}
use Rattle.matching.specs.Matching.{FitsBelow, Fits}
use Rattle.matching.specs.Promise.{LeftBySome, joins, FitsSomeLeft, HasFit, MarkMeans}
use Rattle.matching.proofs.Pairs.{same_pair_lem, has_pair_in}
use Rattle.matching.proofs.Greatest.{greatest_pairing, left_over_lem, fits_some, some_fits}

-- FITS
fits_joins : (fs : List Pair) (u v : ℕ) → Fits fs u v → any (joins u v) fs ≡ true
fits_joins fs u v (inl m) =
    some_any (joins u v) (pair u v) fs m (let t : (eqb u u && eqb v v) ≡ true = and_both _ _ (eq-eqb u u refl) (eq-eqb v v refl) in rw t)
fits_joins fs u v (inr m) =
    some_any (joins u v) (pair v u) fs m (or_right (eqb v u && eqb u v) _ (and_both _ _ (eq-eqb v v refl) (eq-eqb u u refl)))

joins_fits : (fs : List Pair) (u v : ℕ) → any (joins u v) fs ≡ true → Fits fs u v
joins_fits fs u v e =
    let r = any_some (joins u v) fs e in
    let x = r.0 in
    let is : (a b : ℕ) → (eqb x.first a && eqb x.second b) ≡ true → In (pair a b) fs = λ a b t.
    let s = and_two (eqb x.first a) (eqb x.second b) t in
    subst (λ (y : Pair). In y fs) (same_pair_lem x (pair a b) (eqb-true _ _ s.0) (eqb-true _ _ s.1)) r.1 in
    ⊎_elim (λ t. inl (is u v t)) (λ t. inr (is v u t))
    (or_cases (eqb x.first u && eqb x.second v) (eqb x.first v && eqb x.second u) r.2)

module _ (fs : List Pair) (k : ℕ) where
  -- a camera has a fit exactly if it is in one of the fits
  included_fit : is_included fs k ≡ true → HasFit fs k
  included_fit e =
      let r = any_some (λ (x : Pair). touches x k) fs e in
      let x = r.0 in
      ⊎_elim
      (λ t. (x.second, fits_joins fs k x.second (inl (subst (λ (y : Pair). In y fs) (same_pair_lem x (pair k x.second) (eqb-true _ _ t) refl) r.1))))
      (λ t. (x.first, fits_joins fs k x.first (inr (subst (λ (y : Pair). In y fs) (same_pair_lem x (pair x.first k) refl (eqb-true _ _ t)) r.1))))
      (or_cases (eqb x.first k) (eqb x.second k) r.2)

  fit_included : HasFit fs k → is_included fs k ≡ true
  fit_included h =
      ⊎_elim (λ m. some_any (λ (x : Pair). touches x k) (pair k h.0) fs m (rw (eq-eqb k k refl)))
      (λ m. some_any (λ (x : Pair). touches x k) (pair h.0 k) fs m (or_right (eqb h.0 k) _ (eq-eqb k k refl)))
      (joins_fits fs k h.0 h.1)

  -- a pairing's cameras have fits
  pairing_included : (ps : List Pair) → is_pairing fs ps ≡ true → is_included ps k ≡ true → is_included fs k ≡ true
  pairing_included ps p e =
      let r = any_some (λ (x : Pair). touches x k) ps e in
      let a = (and_two (all (has_pair fs) ps) (none_shared ps) p).0 in
      some_any (λ (x : Pair). touches x k) r.0 fs (has_pair_in fs r.0 (all_each (has_pair fs) ps a r.0 r.1)) r.2

  isolated_left : is_included fs k ≡ false → LeftBySome fs k
  isolated_left e =
      let g = greatest_pairing fs in
      (g.0, (g.1.0, g.1.1, by_test (is_included g.0 k) (λ t. true_false (pairing_included g.0 g.1.0 t) e) (λ t. t)))

-- THE MARK BY PAIRINGS ALONE
pairing_mark_low : (fs : List Pair) (k : ℕ) → pairing_mark fs k ≤ 2
pairing_mark_low fs k =
    by_test (left_over fs k) (λ s. rw s (omega arith)) (λ s. by_test (fits_left_over fs k) (λ t. rw (s, t) (omega arith)) (λ t. rw (s, t) (omega arith)))

module _ (n : ℕ) (fs : List Pair) (F : FitsBelow n fs) (k : ℕ) where
  -- the mark's two tests
  by_mark : {C : Type 0} (m : ℕ) → pairing_mark fs k ≡ m → (left_over fs k ≡ true → 0 ≡ m → C) →
      (left_over fs k ≡ false → fits_left_over fs k ≡ true → 1 ≡ m → C) → (left_over fs k ≡ false → fits_left_over fs k ≡ false → 2 ≡ m → C) → C
  by_mark m e a b c =
      by_test (left_over fs k) (λ s. a s (rw s at e))
      (λ s. by_test (fits_left_over fs k) (λ t. b s t (rw (s, t) at e)) (λ t. c s t (rw (s, t) at e)))

  pub pairing_mark_zero : (pairing_mark fs k ≡ 0) ↔ LeftBySome fs k
  pairing_mark_zero = (
    λ e. by_mark 0 e (λ s z. (left_over_lem n fs F k).0 s) (λ s t z. absurd (omega arith)) (λ s t z. absurd (omega arith)),
    λ r. rw ((left_over_lem n fs F k).1 r),
  )

  pub pairing_mark_one : (pairing_mark fs k ≡ 1) ↔ ((LeftBySome fs k → true ≡ false) × FitsSomeLeft fs k)
  pairing_mark_one = (
    λ e.
        by_mark 1 e (λ s z. absurd (omega arith))
        (λ s t z.
        let r = fits_some fs k t in
        (λ l. sym ((left_over_lem n fs F k).1 l) ∙ s, (r.0, (fits_joins fs k r.0 r.1, (left_over_lem n fs F r.0).0 r.2))))
        (λ s t z. absurd (omega arith)),
    λ r.
        let s : left_over fs k ≡ false = by_test (left_over fs k) (λ t. t ∙ r.0 ((left_over_lem n fs F k).0 t)) (λ t. t) in
        let t : fits_left_over fs k ≡ true =
        some_fits fs k r.1.0 (joins_fits fs k r.1.0 r.1.1.0) ((left_over_lem n fs F r.1.0).1 r.1.1.1) in
        rw (s, t),
  )

  -- it is at most 2, so what says when it is 0 and when it is 1 says when it is 2
  pairing_mark_two : (pairing_mark fs k ≡ 2) ↔ ((LeftBySome fs k → true ≡ false) × (FitsSomeLeft fs k → true ≡ false))
  pairing_mark_two = (
    λ q.
        let never : LeftBySome fs k → true ≡ false = λ l. absurd (omega (arith, pairing_mark_zero.1 l)) in
        (never, λ v. absurd (omega (arith, pairing_mark_one.1 (never, v)))),
    λ r.
        let low = pairing_mark_low fs k in
        ⊎_elim (λ z. true_false refl (r.0 (pairing_mark_zero.0 z)))
        (λ z. ⊎_elim (λ o. true_false refl (r.1 (pairing_mark_one.0 o).1)) (λ o. omega arith) (same_or (pairing_mark fs k) 1)) (same_or (pairing_mark fs k) 0),
  )

-- THE MARK
pub mark_low : (fs : List Pair) (k : ℕ) → mark_of fs k ≤ 3
mark_low fs k = by_test (is_included fs k) (λ t. rw t (omega (arith, pairing_mark_low fs k))) (λ t. rw t (omega arith))

module _ (fs : List Pair) (k : ℕ) where
  pub mark_with_fit : HasFit fs k → mark_of fs k ≡ pairing_mark fs k
  mark_with_fit h = rw (fit_included fs k h)

  isolated : (HasFit fs k → true ≡ false) → is_included fs k ≡ false
  isolated h = by_test (is_included fs k) (λ t. t ∙ h (included_fit fs k t)) (λ t. t)

  fit_by_mark : mark_of fs k ≤ 2 → HasFit fs k
  fit_by_mark l = by_test (is_included fs k) (included_fit fs k) (λ t. let z : 3 ≤ 2 = rw t at l in absurd (omega arith))

  fit_unless_left : (LeftBySome fs k → true ≡ false) → HasFit fs k
  fit_unless_left h = by_test (is_included fs k) (included_fit fs k) (λ t. true_false refl (h (isolated_left fs k t)))

  -- a mark other than 3 is the mark by pairings
  paired_by_mark : (m : ℕ) → m ≤ 2 → mark_of fs k ≡ m → pairing_mark fs k ≡ m
  paired_by_mark m l e = sym (mark_with_fit (fit_by_mark (omega arith))) ∙ e

pub same_mark_fit : (fs gs : List Pair) (k : ℕ) → mark_of fs k ≡ mark_of gs k → HasFit fs k → HasFit gs k
same_mark_fit fs gs k e h = fit_by_mark gs k (omega (arith, mark_with_fit fs k h, pairing_mark_low fs k))

module _ (n : ℕ) (fs : List Pair) (F : FitsBelow n fs) (k : ℕ) where
  pub mark_without_fit : (HasFit fs k → true ≡ false) → (mark_of fs k ≡ 3) × (pairing_mark fs k ≡ 0)
  mark_without_fit h =
      let t = isolated fs k h in
      (rw t, (pairing_mark_zero n fs F k).1 (isolated_left fs k t))

  pub mark_kept : (m : ℕ) → 0 < m → m ≤ 2 → (mark_of fs k ≡ m) ↔ (pairing_mark fs k ≡ m)
  mark_kept m p l = (
    paired_by_mark fs k m l,
    λ e.
        by_test (is_included fs k) (λ t. rw t e)
        (λ t. let z = (pairing_mark_zero n fs F k).1 (isolated_left fs k t) in absurd (omega arith)),
  )

  means : (m : ℕ) → mark_of fs k ≡ m → MarkMeans fs k m
  unfolding MarkMeans
  means zero e = ((pairing_mark_zero n fs F k).0 (paired_by_mark fs k 0 (omega arith) e), fit_by_mark fs k (omega arith))
  means (suc zero) e = (pairing_mark_one n fs F k).0 (paired_by_mark fs k 1 (omega arith) e)
  means (suc (suc zero)) e = (pairing_mark_two n fs F k).0 (paired_by_mark fs k 2 (omega arith) e)
  means (suc (suc (suc zero))) e = λ h. absurd (omega (arith, mark_with_fit fs k h, pairing_mark_low fs k))
  means (suc (suc (suc (suc m)))) e = absurd (omega (arith, mark_low fs k))

  marked : (m : ℕ) → MarkMeans fs k m → mark_of fs k ≡ m
  unfolding MarkMeans
  marked zero r = mark_with_fit fs k r.1 ∙ (pairing_mark_zero n fs F k).1 r.0
  marked (suc zero) r = mark_with_fit fs k (fit_unless_left fs k r.0) ∙ (pairing_mark_one n fs F k).1 r
  marked (suc (suc zero)) r = mark_with_fit fs k (fit_unless_left fs k r.0) ∙ (pairing_mark_two n fs F k).1 r
  marked (suc (suc (suc zero))) r = (mark_without_fit r).0
  marked (suc (suc (suc (suc m)))) r = true_false refl r

  pub mark_means : (m : ℕ) → (mark_of fs k ≡ m) ↔ MarkMeans fs k m
  mark_means m = (means m, marked m)
