-- The pairs of a matching camera by camera, which rise by themselves.
--   in_pairs, pairs_in      an element is a camera with its larger partner
--   pairs_lit               they are the fits that are lit, in the order of the fits
--   list_lit                the pairs of a rising list come back as they were
use mathlib.Core.Path.{◌≡◌, refl, sym, ap, subst, ◌∙◌}
use mathlib.Core.Logic.{inl, inr, ⊎_elim}
use mathlib.Core.Bool.{true}
use mathlib.Core.List.{List, [], ◌∷◌}
use Prim.Native.Nat.{ℕ, zero, suc, ◌<◌}
use native.Mathlib.Omega.{arith}
use lib.Dec.{ltb}
use borrow.Author.Tests.{ltb-true, lt-ltb}
use Rattle.counting.specs.Tests.{up_from, below}
use Rattle.counting.specs.Lists.{In}
use Rattle.counting.specs.Pairs.{pair}
use Rattle.counting.specs.declared.Pair.{Pair}
use Rattle.counting.proofs.Booleans.{by_test}
use Rattle.counting.proofs.Range.{up_in, in_up}
use Rattle.matching.specs.Stock.{is_pairing, pairs_rise}
use Rattle.matching.specs.Pairs.{Rising}
use Rattle.matching.specs.Matching.{FitsBelow, Fits, Matching, partner, lit_fits, pairs_in_order}
use Rattle.matching.proofs.Pairs.{same_pair_lem, ends_in}
use Rattle.matching.proofs.Rising.{rise_rising, rising_ordered, rising_same}
use Rattle.matching.proofs.Matchings.{list_fits, list_partner, list_matching, list_lights, lit_in, in_lit, lit_rising}

module _ (p : ℕ → ℕ) where
  pub in_pairs : (ks : List ℕ) (z : Pair) → In z (pairs_in_order p ks) → In z.first ks × (z.first < z.second) × (p z.first ≡ z.second)
  unfolding pairs_in_order
  in_pairs [] z m = absurd m
  in_pairs (k ∷ ks) z m =
      let later : In z (pairs_in_order p ks) → In z.first (k ∷ ks) × (z.first < z.second) × (p z.first ≡ z.second) =
      λ i. let r = in_pairs ks z i in (inr r.0, r.1, r.2) in
      by_test (ltb k (p k))
      (λ t.
      let i : In z (pair k (p k) ∷ pairs_in_order p ks) = rw t at m in
      ⊎_elim
      (λ e.
      let a : z.first ≡ k = ap (λ (w : Pair). w.first) e in
      let b : z.second ≡ p k = ap (λ (w : Pair). w.second) e in
      (inl a, omega (arith, ltb-true k (p k) t), ap p a ∙ sym b)) later i)
      (λ t. later (rw t at m))

  pub pairs_in : (ks : List ℕ) (k : ℕ) → In k ks → k < p k → In (pair k (p k)) (pairs_in_order p ks)
  unfolding pairs_in_order
  pairs_in [] k m h = absurd m
  pairs_in (j ∷ ks) k (inl e) h = rw (← e, lt-ltb k (p k) h) (inl refl)
  pairs_in (j ∷ ks) k (inr m) h = by_test (ltb j (p j)) (λ t. rw t (inr (pairs_in ks k m h))) (λ t. rw t (pairs_in ks k m h))

  pairs_rising : (a m : ℕ) → Rising (pairs_in_order p (up_from a m))
  unfolding pairs_in_order up_from
  pairs_rising a zero = tt
  pairs_rising a (suc m) =
      by_test (ltb a (p a))
      (λ t.
      rw t (
        ltb-true a (p a) t,
        λ y i. inl (omega (arith, in_up (suc a) m y.first (in_pairs (up_from (suc a) m) y i).0)),
        pairs_rising (suc a) m,
      ))
      (λ t. rw t (pairs_rising (suc a) m))

module _ (n : ℕ) (fs : List Pair) (F : FitsBelow n fs) where
  pub pairs_lit : (p : ℕ → ℕ) → Matching fs p → pairs_in_order p (below n) ≡ lit_fits p fs
  pairs_lit p M =
      rising_same (pairs_in_order p (below n)) (lit_fits p fs) (pairs_rising p 0 n) (lit_rising n fs F p M)
      (λ z m.
      let r = in_pairs p (below n) z m in
      let h = r.1 in
      let f : Fits fs z.first z.second =
      subst (λ (w : ℕ). Fits fs z.first w) r.2 (M.fit z.first (λ e. let w = r.2 in omega arith)) in
      ⊎_elim (λ i. lit_in n fs F p M z.first z.second i r.2)
      (λ i. absurd (let o = rising_ordered fs F.rising (pair z.second z.first) i in omega arith)) f)
      (λ z m.
      let r = in_lit n fs F p M z m in
      let o = rising_ordered fs F.rising z r.0 in
      let l = F.named z r.0 in
      let e = r.1 in
      subst (λ (w : ℕ). In (pair z.first w) (pairs_in_order p (below n))) e
      (pairs_in p (below n) z.first (up_in 0 n z.first (omega arith) (omega arith)) (omega arith)))

  pub list_lit : (ps : List Pair) → is_pairing fs ps ≡ true → pairs_rise ps ≡ true → lit_fits (partner ps) fs ≡ ps
  list_lit ps e r =
      let M = list_matching n fs F ps e in
      rising_same (lit_fits (partner ps) fs) ps (lit_rising n fs F (partner ps) M) (rise_rising ps r)
      (λ z m.
      let h = in_lit n fs F (partner ps) M z m in
      let o = rising_ordered fs F.rising z h.0 in
      let q = h.1 in
      let i = (list_lights n fs F ps e).all z.first (λ w. omega arith) in
      let y = ends_in ps z.first i in
      let w = list_partner n fs F ps e y.0 y.1 in
      ⊎_elim
      (λ a. subst (λ (x : Pair). In x ps) (same_pair_lem y.0 z (sym a) (sym w.0 ∙ ap (partner ps) (sym a) ∙ h.1)) y.1)
      (λ a.
      let b : z.second ≡ y.0.first = sym h.1 ∙ ap (partner ps) a ∙ w.1 in
      let c = rising_ordered fs F.rising y.0 (list_fits n fs F ps e y.0 y.1) in
      absurd (omega arith)) y.2)
      (λ z m. lit_in n fs F (partner ps) M z.first z.second (list_fits n fs F ps e z m) (list_partner n fs F ps e z m).0)
