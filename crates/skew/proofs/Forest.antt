-- The forest of buds of a state that does not reach the source's mate.
--   both_mate                   a bud is closed under mates
--   bud_both                    all nodes of a bud are reached
--   bud_base, bud_arc           a bud's base and its base arc
--   tail_both                   the tail of the base arc lies in a bud too
--   root_up, root_stop          where it does, the root is that bud's; else the bud is the root
--   root_is                     the root of a node's tree is one
--   arc_root                    in a closed state an arc between buds stays in one tree
use mathlib.Core.Path.{◌≡◌, refl, sym, ap, subst, ◌∙◌}
use mathlib.Core.Logic.{⊎_elim}
use mathlib.Core.Bool.{true, false}
use Prim.Native.Nat.{ℕ, zero, suc, ◌<◌}
use native.Mathlib.Omega.{arith}
use lib.ListN.{length}
use Rattle.skew.specs.Graph.{Graph, mate}
use Rattle.skew.specs.Paths.{tail, head, SkewSymmetric}
use Rattle.skew.specs.Search.{State, BaseArc, Invariant}
use Rattle.skew.specs.Steps.{Closed}
use Rattle.skew.specs.Forest.{BothReached, BudBase, entry_tail, root_from, root, root_of, IsRoot}
use Rattle.counting.proofs.Booleans.{by_test, true_false}
use Rattle.skew.proofs.Mates.{mate_mate}
use Rattle.skew.proofs.Paths.{mate_arc}

module _ (g : Graph) (st : State) (I : Invariant g st) where
  base_mate_reached : (v : ℕ) → BothReached st v → st.reached (mate (st.base v)) ≡ true
  base_mate_reached v B =
      let b = st.base v in
      let r = I.base_base v B.reached in
      ⊎_elim (λ m. m)
      (λ k.
      ⊎_elim (λ e. subst (λ (z : ℕ). st.reached (mate z) ≡ true) e B.mate_reached)
      (λ e. subst (λ (z : ℕ). st.reached z ≡ true) e B.reached) (k.0 v refl))
      (I.whole b (mate b) r (I.base_mate b ∙ r.self))

  bud_reached : (v u : ℕ) → BothReached st v → st.base u ≡ st.base v → st.reached u ≡ true
  bud_reached v u B e = ⊎_elim (λ m. m) (λ k. rw k.1 (base_mate_reached v B)) (I.whole (st.base v) u (I.base_base v B.reached) e)

  pub bud_both : (v u : ℕ) → BothReached st v → st.base u ≡ st.base v → BothReached st u
  bud_both v u B e = record { reached = bud_reached v u B e; mate_reached = bud_reached v (mate u) B (I.base_mate u ∙ e) }

  pub both_mate : (v : ℕ) → BothReached st v → BothReached st (mate v)
  both_mate v B = bud_both v (mate v) B (I.base_mate v)

  pub bud_base : (v : ℕ) → BothReached st v → BudBase st (st.base v)
  bud_base v B =
      let r = I.base_base v B.reached in
      record { both = record { reached = r.reached; mate_reached = base_mate_reached v B }; self = r.self }

  module _ (shut : st.reached (mate g.source) ≡ false) where
    pub bud_arc : (b : ℕ) → BudBase st b → BaseArc g st b
    bud_arc b X =
        I.base_arc b (record { reached = X.both.reached; self = X.self }) (λ q. true_false (rw q at X.both.mate_reached) shut)

    pub tail_both : (b : ℕ) → BudBase st b → st.reached (mate (entry_tail g st b)) ≡ true → BothReached st (entry_tail g st b)
    tail_both b X t = record { reached = (bud_arc b X).tail_reached; mate_reached = t }

    -- ROOTS
    stable : (n m b : ℕ) → BudBase st b → st.birth b < n → st.birth b < m → root_from n g st b ≡ root_from m g st b
    unfolding root_from
    stable zero m b X h k = absurd (omega arith)
    stable (suc n) zero b X h k = absurd (omega arith)
    stable (suc n) (suc m) b X h k =
        by_test (st.reached (mate (entry_tail g st b)))
        (λ t.
        let low = (bud_arc b X).base_earlier in
        rw t
        (stable n m (st.base (entry_tail g st b)) (bud_base (entry_tail g st b) (tail_both b X t)) (omega (arith, low)) (omega (arith, low))))
        (λ t. rw t)

    pub root_up : (b : ℕ) → BudBase st b → st.reached (mate (entry_tail g st b)) ≡ true → root g st b ≡ root_of g st (entry_tail g st b)
    unfolding root root_from
    root_up b X t =
        let c = st.base (entry_tail g st b) in
        rw t (stable (st.birth b) (suc (st.birth c)) c (bud_base (entry_tail g st b) (tail_both b X t)) (bud_arc b X).base_earlier (omega arith))

    pub root_stop : (b : ℕ) → st.reached (mate (entry_tail g st b)) ≡ false → root g st b ≡ b
    unfolding root root_from
    root_stop b t = rw t

    root_by : (n v : ℕ) → BothReached st v → st.birth (st.base v) < n → IsRoot g st (root_of g st v)
    root_by zero v B h = absurd (omega arith)
    root_by (suc n) v B h =
        let b = st.base v in
        let X = bud_base v B in
        by_test (st.reached (mate (entry_tail g st b)))
        (λ t. rw (root_up b X t) (root_by n (entry_tail g st b) (tail_both b X t) (omega (arith, (bud_arc b X).base_earlier))))
        (λ t. rw (root_stop b t) (record { base = X; outside = t }))

    pub root_is : (v : ℕ) → BothReached st v → IsRoot g st (root_of g st v)
    root_is v B = root_by (suc (st.birth (st.base v))) v B (omega arith)

    pub arc_root : SkewSymmetric g → Closed g st → (i : ℕ) → i < length g.arcs → BothReached st (tail g i) → BothReached st (head g i) →
        root_of g st (tail g i) ≡ root_of g st (head g i)
    arc_root d K i h X Y =
        ⊎_elim (λ k. ap (root g st) k.0) (⊎_elim enters leaves) (K.settled i h X.reached Y.mate_reached)
      where
        x : ℕ
        x = tail g i

        y : ℕ
        y = head g i

        enters : i ≡ st.via (st.base y) → root_of g st x ≡ root_of g st y
        enters q =
            let t : entry_tail g st (st.base y) ≡ x = ap (tail g) (sym q) in
            sym (root_up (st.base y) (bud_base y Y) (rw t X.mate_reached) ∙ ap (root_of g st) t)

        leaves : mate i ≡ st.via (st.base x) → root_of g st x ≡ root_of g st y
        leaves q =
            let t : entry_tail g st (st.base x) ≡ mate y = ap (tail g) (sym q) ∙ (mate_arc g d i h).1 in
            root_up (st.base x) (bud_base x X) (rw (t, mate_mate y) Y.reached) ∙ ap (root_of g st) t ∙ ap (root g st) (I.base_mate y)
