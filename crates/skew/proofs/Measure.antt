-- Each step lowers the measure.
--   weigh_two                          a node weighs at most 2
--   base_node                          a base is a node of the graph
--   tree_step_less, bud_step_less      the total falls; a bud step must absorb something or reach its base's mate
use mathlib.Core.Path.{◌≡◌, refl, sym, ◌∙◌}
use mathlib.Core.Logic.{◌⊎◌, inl, inr, ◌≢◌, ⊎_elim}
use mathlib.Core.Bool.{Bool, true, false}
use Prim.Native.Nat.{ℕ, suc, ◌≤◌, ◌<◌}
use native.Mathlib.Omega.{arith}
use lib.Dec.{eqb}
use lib.ListN.{length}
use borrow.Author.Tests.{eqb-true, eq-eqb, ne_eqb}
use Rattle.counting.specs.Tests.{pick}
use Rattle.skew.specs.Graph.{Graph, mate, nodes}
use Rattle.skew.specs.Paths.{tail, head, WellFormed}
use Rattle.skew.specs.Search.{State, IsBase, Invariant}
use Rattle.skew.specs.Steps.{TreeStep, BudStep, Absorbable}
use Rattle.skew.specs.Measure.{weigh, weight, total}
use Rattle.counting.proofs.Booleans.{by_test, true_false, same_or}
use Rattle.counting.proofs.Summation.{sum_lt}
use Rattle.skew.proofs.Mates.{mate_mate, mate_other, mate_below}

pub weigh_two : (a b c : Bool) → weigh a b c ≤ 2
weigh_two true b true = omega arith
weigh_two true b false = omega arith
weigh_two false true true = omega arith
weigh_two false true false = omega arith
weigh_two false false c = omega arith

-- A NODE'S WEIGHT does not rise where what is reached stays so and, in a pair that was reached, no base comes about
pick_le : (c c' : Bool) (n : ℕ) → (c' ≡ true → c ≡ true) → pick c' (suc n) n ≤ pick c (suc n) n
pick_le true true n h = omega arith
pick_le true false n h = omega arith
pick_le false true n h = true_false (h refl) refl
pick_le false false n h = omega arith

weigh_le : (a b c a' b' c' : Bool) → (a ≡ true → a' ≡ true) → (b ≡ true → b' ≡ true) → ((a ≡ true) ⊎ (b ≡ true) → c' ≡ true → c ≡ true) →
    weigh a' b' c' ≤ weigh a b c
weigh_le true b c a' b' c' h k l = rw (h refl) (pick_le c c' 0 (l (inl refl)))
weigh_le false true c true b' c' h k l = omega (arith, pick_le c c' 0 (l (inr refl)), one c)
  where
    one : (c : Bool) → pick c 1 0 ≤ pick c 2 1
    one true = omega arith
    one false = omega arith
weigh_le false true c false b' c' h k l = rw (k refl) (pick_le c c' 1 (l (inr refl)))
weigh_le false false c a' b' c' h k l = weigh_two a' b' c'

weight_le : (st new : State) → ((u : ℕ) → st.reached u ≡ true → new.reached u ≡ true) →
    ((u : ℕ) → (st.reached u ≡ true) ⊎ (st.reached (mate u) ≡ true) → new.base u ≡ u → st.base u ≡ u) → (u : ℕ) → weight new u ≤ weight st u
weight_le st new still base u =
    weigh_le (st.reached u) (st.reached (mate u)) (eqb (st.base u) u) (new.reached u) (new.reached (mate u)) (eqb (new.base u) u)
    (still u) (still (mate u)) (λ t c. eq-eqb _ _ (base u t (eqb-true _ _ c)))

module _ (g : Graph) (wf : WellFormed g) (st : State) (I : Invariant g st) where
  pub base_node : (b : ℕ) → IsBase st b → b < nodes g
  base_node b r =
      ⊎_elim (λ q. omega (arith, wf.source_node))
      (λ n. let a = I.base_arc b r n in rw a.head_is at (wf.head_node (st.via b) a.is_arc)) (same_or b g.source)

  -- THE TREE STEP: the new head weighs less
  pub tree_step_less : (e : ℕ) → e < length g.arcs → st.reached (tail g e) ≡ true → st.reached (head g e) ≡ false →
      st.reached (mate (head g e)) ≡ false → (new : State) → TreeStep g st e new → total g new < total g st
  tree_step_less e h lv lw lm new N =
      sum_lt (weight new) (weight st) (nodes g) w
      (λ u k. weight_le st new still (λ u t c. sym (N.base_other u (out u t)) ∙ c) u) (wf.head_node e h)
      (rw (lw, lm, N.reached_head, N.base_head, eq-eqb w w refl) (omega arith))
    where
      w : ℕ
      w = head g e

      still : (u : ℕ) → st.reached u ≡ true → new.reached u ≡ true
      still u l = ⊎_elim (λ q. rw q N.reached_head) (λ n. N.reached_other u n ∙ l) (same_or u w)

      out : (u : ℕ) → (st.reached u ≡ true) ⊎ (st.reached (mate u) ≡ true) → (u ≢ w) × (u ≢ mate w)
      out u (inl l) = (λ q. true_false (rw q at l) lw, λ q. true_false (rw q at l) lm)
      out u (inr l) = (λ q. true_false (rw q at l) lm, λ q. true_false (rw (q, mate_mate w) at l) lw)

  -- THE BUD STEP: an absorbed base, or the mate of the base that is now reached, weighs less
  module _ (C : ℕ → Bool) (b : ℕ) (via : ℕ → ℕ) (K : Absorbable g st C b via) (new : State) (N : BudStep st C b via new) where
    bases_fewer : (u : ℕ) → new.base u ≡ u → st.base u ≡ u
    bases_fewer u c =
        by_test (C (st.base u))
        (λ s. let q : b ≡ u = sym (N.base_in u s) ∙ c in true_false (rw (← q, K.base_is.self) at s) K.out)
        (λ s. sym (N.base_out u s) ∙ c)

    each_le : (u : ℕ) → weight new u ≤ weight st u
    each_le = weight_le st new N.reached_still (λ u t. bases_fewer u)

    pub bud_step_less : ((c : ℕ) × (C c ≡ true)) ⊎ (st.reached (mate b) ≡ false) → total g new < total g st
    bud_step_less (inl k) =
        let c = k.0 in
        let r = K.bases c k.1 in
        let n : new.base c ≢ c = λ q. true_false k.1 (rw (sym (N.base_in c (rw r.self k.1)) ∙ q) at K.out) in
        sum_lt (weight new) (weight st) (nodes g) c (λ u h. each_le u) (base_node c r)
        (rw (r.reached, N.reached_still c r.reached, eq-eqb (st.base c) c r.self, ne_eqb (new.base c) c n) (omega arith))
    bud_step_less (inr f) =
        let s : st.base (mate b) ≡ b = I.base_mate b ∙ K.base_is.self in
        let s' : new.base (mate b) ≡ b = N.base_out (mate b) (rw s K.out) ∙ s in
        sum_lt (weight new) (weight st) (nodes g) (mate b) (λ u h. each_le u)
        (mate_below b (nodes g) (omega arith) (base_node b K.base_is))
        (rw (f, mate_mate b, K.base_is.reached, N.reached_mate, s, s', ne_eqb b (mate b) (λ q. mate_other b (sym q))) (omega arith))
