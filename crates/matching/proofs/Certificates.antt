-- What a certificate for p gives, by counting (Gallai and Edmonds).
--   representatives_count                             as many as the cameras that p leaves over and the inner ones: p itself is the bijection
--   group_odd                                         p pairs a group without its representative
--   exposed, exposed_is                               of any matching q: a camera of the group that q leaves over or pairs with an inner one
--   exposed_partner_in, exposed_partner_injective     its partner: representatives inject into the outer cameras that q leaves over and the inner ones
--   left_or_inner_count, representatives_bound        how many those are, and that they are no fewer than the representatives
--   left_outer_unlit                                  no more outer cameras are left over than cameras
--   largest                                           q leaves over no fewer than p
--   left_is_outer                                     if q leaves over no more than p, all that it leaves over are outer
use mathlib.Core.Path.{◌≡◌, refl, sym, ap, subst, ◌∙◌}
use mathlib.Core.Logic.{inl, inr, ◌≢◌, ⊎_elim}
use mathlib.Core.Bool.{Bool, true, false, ◌&&◌, ◌||◌, not}
use mathlib.Core.List.{List, ◌∷◌}
use Prim.Native.Nat.{ℕ, ◌+◌, ◌%◌, ◌≤◌, ◌<◌}
use native.Mathlib.Omega.{arith}
use lib.Dec.{eqb}
use lib.ListN.{length}
use borrow.Author.Tests.{eqb-true, eqb-false, eq-eqb, ne_eqb, not-true}
use Rattle.counting.specs.Tests.{any, below, keep}
use Rattle.counting.specs.Lists.{In, Distinct, find}
use Rattle.counting.specs.declared.Pair.{Pair}
use Rattle.counting.proofs.Booleans.{and_two, and_three, and_both, or_right, or_cases, or_false_left, or_false_right, by_test, true_false, same_or}
use Rattle.counting.proofs.Membership.{any_some, some_any}
use Rattle.counting.proofs.Kept.{in_keep, keep_in, keep_distinct, keep_or, found}
use Rattle.counting.proofs.Pigeonhole.{distinct_within, injection, keep_le, keep_same}
use Rattle.counting.proofs.Range.{up_in, in_up, distinct_up}
use Rattle.counting.proofs.Involutions.{even}
use Rattle.matching.specs.Matching.{FitsBelow, Matching, is_unlit, unlit}
use Rattle.matching.specs.Certificate.{Certificate, those, is_representative, is_left_outer, is_left_or_inner}
use Rattle.matching.proofs.Matchings.{fits_low, matching_low, matching_injective}

-- CAMERAS THAT PASS A TEST
module _ (n : ℕ) (f : ℕ → Bool) where
  those_in : (k : ℕ) → k < n → f k ≡ true → In k (those n f)
  those_in k h e = keep_in f (below n) k (up_in 0 n k (omega arith) (omega arith)) e

  in_those : (k : ℕ) → In k (those n f) → (k < n) × (f k ≡ true)
  in_those k m = let r = in_keep f (below n) k m in (omega (arith, in_up 0 n k r.0), r.1)

  those_distinct : Distinct (those n f)
  those_distinct = keep_distinct f (below n) (distinct_up 0 n)

module _ (n : ℕ) (fs : List Pair) (F : FitsBelow n fs) (p : ℕ → ℕ) (M : Matching fs p) (D A : ℕ → Bool) (group : ℕ → ℕ) (C : Certificate n fs p D A group) where
  abbrev pub representatives : List ℕ
  representatives = those n (is_representative D group)

  -- where p sends the representatives
  abbrev is_end : ℕ → Bool
  is_end k = is_unlit p k || A k

  end_representative : (k : ℕ) → In k (those n is_end) → In (p k) representatives
  end_representative k m =
      let r = in_those n is_end k m in
      ⊎_elim
      (λ t.
      let e : p k ≡ k = eqb-true _ _ t in
      let u = C.unlit k r.0 e in
      subst (λ (z : ℕ). In z representatives) (sym e) (those_in n (is_representative D group) k r.0 (and_both _ _ u.0 (eq-eqb _ _ u.1))))
      (λ t.
      let u = C.inner k r.0 t in
      those_in n (is_representative D group) (p k) (matching_low n fs F p M k r.0) (and_both _ _ u.1 (eq-eqb _ _ u.2)))
      (or_cases (is_unlit p k) (A k) r.1)

  representative_end : (k : ℕ) → In k representatives → In (p k) (those n is_end)
  representative_end k m =
      let r = in_those n (is_representative D group) k m in
      let s = and_two (D k) (eqb (group k) k) r.1 in
      those_in n is_end (p k) (matching_low n fs F p M k r.0)
      (⊎_elim (λ e. let t : is_unlit p (p k) ≡ true = eq-eqb _ _ (ap p e) in rw t) (λ t. or_right (is_unlit p (p k)) (A (p k)) t)
      (C.representative k r.0 s.0 (eqb-true _ _ s.1)))

  pub representatives_count : length representatives ≡ length (unlit n p) + length (those n A)
  unfolding unlit
  representatives_count =
      let to = injection p (those n is_end) representatives (those_distinct n is_end) (λ x y k l. matching_injective fs p M x y) end_representative in
      let from =
      injection p representatives (those n is_end) (those_distinct n (is_representative D group)) (λ x y k l. matching_injective fs p M x y) representative_end in
      omega (
        arith,
        to,
        from,
        keep_or (is_unlit p) A (below n)
            (λ k m t. by_test (A k) (λ s. absurd ((C.inner k (omega (arith, in_up 0 n k m)) s).0 (eqb-true _ _ t))) (λ s. s)),
      )

  -- GROUPS
  abbrev in_group : ℕ → ℕ → Bool
  in_group r k = D k && eqb (group k) r

  group_of : (r k : ℕ) → In k (those n (in_group r)) → (k < n) × (D k ≡ true) × (group k ≡ r)
  group_of r k m =
      let a = in_those n (in_group r) k m in let s = and_two (D k) (eqb (group k) r) a.1 in (a.0, s.0, eqb-true _ _ s.1)

  of_group : (r k : ℕ) → k < n → D k ≡ true → group k ≡ r → In k (those n (in_group r))
  of_group r k h d e = those_in n (in_group r) k h (and_both _ _ d (eq-eqb _ _ e))

  pub group_odd : (r : ℕ) → r < n → D r ≡ true → group r ≡ r → length (those n (in_group r)) % 2 ≡ 1
  group_odd r h d e =
      let G = those n (in_group r) in
      let other : ℕ → Bool = λ (k : ℕ). not (eqb k r) in
      let H = keep other G in
      let dG = those_distinct n (in_group r) in
      let dH = keep_distinct other G dG in
      let in_H : (k : ℕ) → In k H → In k G × (k ≢ r) = λ k m. let a = in_keep other G k m in (a.0, eqb-false k r (not-true _ a.1)) in
      let to_H : (k : ℕ) → In k G → k ≢ r → In k H = λ k m ne. keep_in other G k m (rw (ne_eqb k r ne)) in
      let up = distinct_within (r ∷ H) G (λ m. (in_H r m).1 refl, dH) (λ k. ⊎_elim (λ q. rw q (of_group r r h d e)) (λ m. (in_H k m).0)) in
      let down = distinct_within G (r ∷ H) dG (λ k m. ⊎_elim (λ q. inl q) (λ q. inr (to_H k m q)) (same_or k r)) in
      let mem : (k : ℕ) → In k H → (k < n) × (k ≢ r) × (p k ≢ k) × (D (p k) ≡ true) × (group (p k) ≡ r) × (D k ≡ true) = λ k m.
      let a = in_H k m in
      let b = group_of r k a.0 in
      let c = C.member k b.0 b.1 (λ q. a.1 (sym q ∙ b.2)) in
      (b.0, a.1, c.0, c.1, c.2 ∙ b.2, b.1) in
      let closed : (k : ℕ) → In k H → In (p k) H = λ k m.
      let c = mem k m in
      to_H (p k) (of_group r (p k) (matching_low n fs F p M k c.0) c.3 c.4)
      (λ q.
      let back : p r ≡ k = ap p (sym q) ∙ M.back k in
      ⊎_elim (λ z. c.1 (sym back ∙ z)) (λ z. true_false c.5 (C.apart k (rw back at z))) (C.representative r h d e)) in
      omega (arith, up, down, even p H dH closed M.back (λ k m. (mem k m).2))

  -- EVERY MATCHING q
  module _ (q : ℕ → ℕ) (Q : Matching fs q) where
    -- paired by q with no outer camera
    abbrev is_exposed : ℕ → Bool
    is_exposed k = is_unlit q k || A (q k)

    -- without an exposed q would pair the group within itself
    group_even : (r : ℕ) → ((k : ℕ) → In k (those n (in_group r)) → is_exposed k ≡ false) → length (those n (in_group r)) % 2 ≡ 0
    group_even r none =
        let G = those n (in_group r) in
        let ne : (k : ℕ) → In k G → q k ≢ k = λ k m. eqb-false _ _ (or_false_left (is_unlit q k) (A (q k)) (none k m)) in
        let closed : (k : ℕ) → In k G → In (q k) G = λ k m.
        let b = group_of r k m in
        let f = Q.fit k (ne k m) in
        ⊎_elim (λ z. true_false z (or_false_right (is_unlit q k) (A (q k)) (none k m)))
        (λ z. of_group r (q k) (fits_low n fs F k (q k) f).1 z.0 (sym z.1 ∙ b.2)) (C.fits k (q k) f b.1) in
        even q G (those_distinct n (in_group r)) closed Q.back ne

    abbrev is_exposed_in : ℕ → ℕ → Bool
    is_exposed_in r k = D k && eqb (group k) r && is_exposed k

    pub exposed : ℕ → ℕ
    exposed r = find (is_exposed_in r) (below n)

    pub exposed_is : (r : ℕ) → In r representatives → (exposed r < n) × (D (exposed r) ≡ true) × (group (exposed r) ≡ r) × (is_exposed (exposed r) ≡ true)
    unfolding exposed
    exposed_is r m =
        let a = in_those n (is_representative D group) r m in
        let s = and_two (D r) (eqb (group r) r) a.1 in
        let x = find (is_exposed_in r) (below n) in
        by_test (any (is_exposed_in r) (below n))
        (λ t.
        let w = any_some (is_exposed_in r) (below n) t in
        let f = found (is_exposed_in r) (below n) w.0 w.1 w.2 in
        let y = and_three (D x) (eqb (group x) r) (is_exposed x) f.1 in
        (omega (arith, in_up 0 n x f.0), y.0, eqb-true _ _ y.1, y.2))
        (λ t.
        let none : (k : ℕ) → In k (those n (in_group r)) → is_exposed k ≡ false = λ k l.
        let b = group_of r k l in
        by_test (is_exposed k)
        (λ z.
        true_false
        (some_any (is_exposed_in r) k (below n) (up_in 0 n k (omega arith) (omega (arith, b.0)))
        (and_both _ _ (and_both _ _ b.1 (eq-eqb _ _ b.2)) z)) t)
        (λ z. z) in
        absurd (omega (arith, group_even r none, group_odd r a.0 s.0 (eqb-true _ _ s.1))))

    pub exposed_partner : ℕ → ℕ
    exposed_partner r = q (exposed r)

    pub exposed_partner_in : (r : ℕ) → In r representatives → In (exposed_partner r) (those n (is_left_or_inner D A q))
    unfolding exposed_partner
    exposed_partner_in r m =
        let h = exposed_is r m in
        let k = exposed r in
        those_in n (is_left_or_inner D A q) (q k) (matching_low n fs F q Q k h.0)
        (⊎_elim
        (λ t.
        let e : q k ≡ k = eqb-true _ _ t in
        let l : is_left_outer D q (q k) ≡ true = and_both _ _ (eq-eqb _ _ (ap q e)) (rw e h.1) in
        rw l)
        (λ t. or_right (is_left_outer D q (q k)) (A (q k)) t) (or_cases (is_unlit q k) (A (q k)) h.3))

    pub exposed_partner_injective : (x y : ℕ) → In x representatives → In y representatives → exposed_partner x ≡ exposed_partner y → x ≡ y
    unfolding exposed_partner
    exposed_partner_injective x y k l e = sym (exposed_is x k).2 ∙ ap group (matching_injective fs q Q (exposed x) (exposed y) e) ∙ (exposed_is y l).2

    pub left_or_inner_count : length (those n (is_left_or_inner D A q)) ≡ length (those n (is_left_outer D q)) + length (those n A)
    left_or_inner_count =
        keep_or (is_left_outer D q) A (below n)
        (λ k m t. by_test (A k) (λ s. true_false (and_two (is_unlit q k) (D k) t).1 (C.apart k s)) (λ s. s))

    pub representatives_bound : length representatives ≤ length (those n (is_left_or_inner D A q))
    representatives_bound =
        injection exposed_partner representatives (those n (is_left_or_inner D A q)) (those_distinct n (is_representative D group)) exposed_partner_injective exposed_partner_in

    pub left_outer_unlit : length (those n (is_left_outer D q)) ≤ length (unlit n q)
    unfolding unlit
    left_outer_unlit = keep_le (is_left_outer D q) (is_unlit q) (below n) (distinct_up 0 n) (λ k m t. (and_two (is_unlit q k) (D k) t).0)

    pub largest : length (unlit n p) ≤ length (unlit n q)
    largest = omega (arith, representatives_count, representatives_bound, left_or_inner_count, left_outer_unlit)

    pub left_is_outer : length (unlit n q) ≤ length (unlit n p) → (k : ℕ) → k < n → q k ≡ k → D k ≡ true
    unfolding unlit
    left_is_outer most k h e =
        let t =
        keep_same (is_left_outer D q) (is_unlit q) (below n) (distinct_up 0 n) (λ x m z. (and_two (is_unlit q x) (D x) z).0)
        (omega (arith, representatives_count, representatives_bound, left_or_inner_count)) k (up_in 0 n k (omega arith) (omega arith)) (eq-eqb _ _ e) in
        (and_two (is_unlit q k) (D k) t).1
