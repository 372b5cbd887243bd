-- Fragments of a state with the invariant.
--   fragment_closed, absorbed_closed      fragments, and unions of them, are closed under mates
--   fragment_outside                      a fragment has no node in common with a union that leaves it out
--   plain_base                            where the base's mate is not reached, the base is the only reached node
--   later_not_source                      a base no earlier than another is not the source
use mathlib.Core.Path.{◌≡◌, sym, ap, ◌∙◌}
use mathlib.Core.Logic.{◌≢◌, ⊎_elim}
use mathlib.Core.Bool.{Bool, true, false}
use Prim.Native.Nat.{ℕ, ◌≤◌}
use native.Mathlib.Omega.{arith}
use Rattle.skew.specs.Graph.{Graph, mate}
use Rattle.skew.specs.Paths.{tail, MateClosed, Disjoint}
use Rattle.skew.specs.Search.{State, IsBase, InFragment, Invariant}
use Rattle.skew.specs.Ascent.{InAbsorbed}
use Rattle.counting.proofs.Booleans.{true_false}

module _ (g : Graph) (st : State) (I : Invariant g st) where
  pub fragment_closed : (b : ℕ) → MateClosed (InFragment st b)
  fragment_closed b u q = I.base_mate u ∙ q

  pub absorbed_closed : (C : ℕ → Bool) → MateClosed (InAbsorbed st C)
  absorbed_closed C u h = rw (I.base_mate u) h

  pub fragment_outside : (C : ℕ → Bool) (b : ℕ) → C b ≡ false → Disjoint (InFragment st b) (InAbsorbed st C)
  fragment_outside C b o u q h = true_false (rw q at h) o

  pub plain_base : (b w : ℕ) → IsBase st b → st.reached (mate b) ≡ false → st.reached w ≡ true → st.base w ≡ b → w ≡ b
  plain_base b w r t l q =
      ⊎_elim (λ m. true_false m t) (λ m. ⊎_elim (λ k. k) (λ k. true_false (rw k at l) t) (m.0 w q))
      (I.whole b (mate b) r (I.base_mate b ∙ r.self))

  pub later_not_source : (v c : ℕ) → st.reached v ≡ true → st.base v ≢ c → st.birth (st.base v) ≤ st.birth c → c ≢ g.source
  later_not_source v c l n h q =
      let a = I.base_arc (st.base v) (I.base_base v l) (λ k. n (k ∙ sym q)) in
      let x = tail g (st.via (st.base v)) in
      omega (arith, a.base_earlier, I.source_first (st.base x) (I.base_base x a.tail_reached).reached, ap st.birth q)
