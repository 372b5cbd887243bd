-- Settled arcs ask for no bud, and both steps keep them so (PRESERVED).
--   settled_or                               a bridge is settled or not
--   settled_kind                             a settled arc lies within a bud, leads into a base, or out of a base's mate
--   settled_mate                             an arc is settled as its mate is
--   tree_step_reached, tree_step_settled     the tree step keeps what is reached and settled
--   bud_step_settled                         and so does the bud step
--   bud_step_settles                         which settles each arc with both ends in the new bud
use mathlib.Core.Path.{◌≡◌, sym, ap, subst, ◌∙◌}
use mathlib.Core.Logic.{◌⊎◌, inl, inr, ◌≢◌, ⊎_elim}
use mathlib.Core.Bool.{Bool, true, false}
use Prim.Native.Nat.{ℕ, ◌<◌}
use native.Mathlib.Omega.{arith}
use lib.ListN.{length}
use Rattle.skew.specs.Graph.{Graph, mate}
use Rattle.skew.specs.Paths.{tail, head, SkewSymmetric}
use Rattle.skew.specs.Search.{State, IsBase, parent_base, BaseArc, ReachedEnds, Invariant}
use Rattle.skew.specs.Steps.{TreeStep, BudStep, Absorbable, Settled, SettledArc, SettledKind, within, enters, leaves}
use Rattle.skew.specs.Ascent.{Unsettled}
use Rattle.counting.proofs.Booleans.{by_test, true_false, same_or}
use Rattle.skew.proofs.Mates.{mate_mate, mate_inj}
use Rattle.skew.proofs.Paths.{mate_arc}

module _ (g : Graph) (d : SkewSymmetric g) (st : State) (I : Invariant g st) where
  pub settled_or : (i : ℕ) → ReachedEnds g st i → Settled g st i ⊎ Unsettled g st i (tail g i) (mate (head g i))
  settled_or i R =
      ⊎_elim (λ q. by_test (st.reached (head g i)) (λ t. inl (inl (q, t))) (λ t. inr (in_one q t)))
      (λ n.
      ⊎_elim (λ q. inl (inr (inl q)))
      (λ p. ⊎_elim (λ q. inl (inr (inr q))) (λ q. inr (between n p q)) (same_or (mate i) (st.via (st.base (tail g i)))))
      (same_or i (st.via (st.base (head g i)))))
      (same_or (st.base (tail g i)) (st.base (head g i)))
    where
      m : st.base (mate (head g i)) ≡ st.base (head g i)
      m = I.base_mate (head g i)

      in_one : st.base (tail g i) ≡ st.base (head g i) → st.reached (head g i) ≡ false → Unsettled g st i (tail g i) (mate (head g i))
      in_one q t =
          record {
            not_base_arcs = λ n. absurd (n (q ∙ sym m));
            mate_new = λ e.
                ⊎_elim (λ l. true_false l t) (λ k. rw k.1 at t)
                (I.whole (st.base (tail g i)) (head g i) (I.base_base (tail g i) R.tail_reached) (sym q));
          }

      between : st.base (tail g i) ≢ st.base (head g i) → i ≢ st.via (st.base (head g i)) → mate i ≢ st.via (st.base (tail g i)) →
          Unsettled g st i (tail g i) (mate (head g i))
      between n p q = record { not_base_arcs = λ k. (λ e. p (e ∙ ap st.via m), q); mate_new = λ e. absurd (n (e ∙ m)) }

  -- within one bud both nodes of the tail's pair are reached
  shared : (x y : ℕ) → st.reached x ≡ true → st.reached (mate y) ≡ true → st.base x ≡ st.base y → st.reached y ≡ true →
      st.reached (mate x) ≡ true
  shared x y lx lm q ly =
      ⊎_elim (λ l. l)
      (λ k.
      let b = st.base x in
      let xb : x ≡ b = mate_inj x b k.1 in
      ⊎_elim (λ (e : y ≡ b). rw (xb ∙ sym e) lm) (λ (e : y ≡ mate b). rw xb (rw e at ly)) (k.0 y (sym q)))
      (I.whole (st.base x) (mate x) (I.base_base x lx) (I.base_mate x))

  pub settled_mate : (j : ℕ) → j < length g.arcs → SettledArc g st j → SettledArc g st (mate j)
  settled_mate j h S =
      let m = mate_arc g d j h in
      let bt : st.base (tail g (mate j)) ≡ st.base (head g j) = ap st.base m.1 ∙ I.base_mate (head g j) in
      let bh : st.base (head g (mate j)) ≡ st.base (tail g j) = ap st.base m.2 ∙ I.base_mate (tail g j) in
      record {
        tail_reached = rw m.1 S.mate_reached;
        mate_reached = rw (m.2, mate_mate (tail g j)) S.tail_reached;
        settled =
            ⊎_elim
            (λ k.
            inl (bt ∙ sym k.0 ∙ sym bh, rw m.2 (shared (tail g j) (head g j) S.tail_reached S.mate_reached k.0 k.1)))
            (⊎_elim (λ k. inr (inr (mate_mate j ∙ k ∙ ap st.via (sym bt)))) (λ k. inr (inl (k ∙ ap st.via (sym bh)))))
            S.settled;
      }

  head_base : (j : ℕ) → SettledArc g st j → IsBase st (st.base (head g j))
  head_base j S = subst (λ (b : ℕ). IsBase st b) (I.base_mate (head g j)) (I.base_base (mate (head g j)) S.mate_reached)

  pub settled_kind : (j : ℕ) → j < length g.arcs → SettledArc g st j → SettledKind g st j
  settled_kind j h S =
      ⊎_elim (λ k. within k.0 k.1 (shared x y S.tail_reached S.mate_reached k.0 k.1)) (⊎_elim into out_of) S.settled
    where
      x : ℕ
      x = tail g j

      y : ℕ
      y = head g j

      -- no arc is the source's
      base_arc : (i b : ℕ) → i < length g.arcs → IsBase st b → i ≡ st.via b → BaseArc g st b
      base_arc i b k r q = I.base_arc b r (λ n. omega (arith, I.source_via, ap st.via n))

      into : j ≡ st.via (st.base y) → SettledKind g st j
      into q =
          let r = head_base j S in
          let e : st.base y ≡ y = sym (ap (head g) q ∙ (base_arc j (st.base y) h r q).head_is) in
          enters (subst (λ (b : ℕ). IsBase st b) e r) (q ∙ ap st.via e)

      out_of : mate j ≡ st.via (st.base x) → SettledKind g st j
      out_of q =
          let m = mate_arc g d j h in
          let r = I.base_base x S.tail_reached in
          let e : st.base x ≡ mate x = sym (ap (head g) q ∙ (base_arc (mate j) (st.base x) m.0 r q).head_is) ∙ m.2 in
          leaves (subst (λ (b : ℕ). IsBase st b) e r) (q ∙ ap st.via e)

  -- THE TREE STEP
  module _ (e : ℕ) (new : State) (lw : st.reached (head g e) ≡ false) (lm : st.reached (mate (head g e)) ≡ false) (N : TreeStep g st e new) where
    out : (u : ℕ) → st.reached u ≡ true → (u ≢ head g e) × (u ≢ mate (head g e))
    out u l = (λ q. true_false l (rw q lw), λ q. true_false l (rw q lm))

    out_mate : (u : ℕ) → st.reached (mate u) ≡ true → (u ≢ head g e) × (u ≢ mate (head g e))
    out_mate u l = (λ q. true_false (rw q at l) lm, λ q. true_false (rw (q, mate_mate (head g e)) at l) lw)

    pub tree_step_reached : (u : ℕ) → st.reached u ≡ true → new.reached u ≡ true
    tree_step_reached u l = N.reached_other u (out u l).0 ∙ l

    pub tree_step_settled : (j : ℕ) → SettledArc g st j → SettledArc g new j
    tree_step_settled j S =
        let bt : new.base (tail g j) ≡ st.base (tail g j) = N.base_other (tail g j) (out (tail g j) S.tail_reached) in
        let bh : new.base (head g j) ≡ st.base (head g j) = N.base_other (head g j) (out_mate (head g j) S.mate_reached) in
        let via_same : (c : ℕ) → IsBase st c → new.via c ≡ st.via c = λ c r. N.via_other c (out c r.reached).0 in
        let vt = via_same (st.base (tail g j)) (I.base_base (tail g j) S.tail_reached) in
        let vh = via_same (st.base (head g j)) (head_base j S) in
        record {
          tail_reached = tree_step_reached (tail g j) S.tail_reached;
          mate_reached = tree_step_reached (mate (head g j)) S.mate_reached;
          settled =
              ⊎_elim (λ k. inl (bt ∙ k.0 ∙ sym bh, tree_step_reached (head g j) k.1))
              (⊎_elim (λ k. inr (inl (k ∙ sym vh ∙ ap new.via (sym bh)))) (λ k. inr (inr (k ∙ sym vt ∙ ap new.via (sym bt)))))
              S.settled;
        }

  -- THE BUD STEP: with a base that is absorbed goes the base above it, unless that absorbs
  module _ (C : ℕ → Bool) (b : ℕ) (via : ℕ → ℕ) (K : Absorbable g st C b via) (new : State) (N : BudStep st C b via new)
      (ups : (c : ℕ) → C c ≡ true → (C (parent_base g st c) ≡ true) ⊎ (parent_base g st c ≡ b)) where
    abbrev InBud : ℕ → Type 0
    InBud u = (C (st.base u) ≡ true) ⊎ (st.base u ≡ b)

    bud_base : (u : ℕ) → InBud u → new.base u ≡ b
    bud_base u (inl t) = N.base_in u t
    bud_base u (inr q) = N.base_out u (rw q K.out) ∙ q

    bud_reached : (u : ℕ) → InBud u → new.reached u ≡ true
    bud_reached u (inl t) = N.reached_in u t
    bud_reached u (inr e) = ⊎_elim (λ m. N.reached_still u m) (λ m. rw m.1 N.reached_mate) (I.whole b u K.base_is e)

    same_base : (u w : ℕ) → st.base u ≡ st.base w → new.base u ≡ new.base w
    same_base u w q =
        by_test (C (st.base u)) (λ t. N.base_in u t ∙ sym (N.base_in w (rw q at t)))
        (λ t. N.base_out u t ∙ q ∙ sym (N.base_out w (rw q at t)))

    via_same : (c : ℕ) → IsBase st c → new.via c ≡ st.via c
    via_same c r = N.via_is c ∙ K.via_old c r.reached

    pub bud_step_settled : (j : ℕ) → j < length g.arcs → SettledArc g st j → SettledArc g new j
    bud_step_settled j h S =
        record {
          tail_reached = N.reached_still x S.tail_reached;
          mate_reached = N.reached_still (mate y) S.mate_reached;
          settled = ⊎_elim (λ k. inl (same_base x y k.0, N.reached_still y k.1)) (⊎_elim by_base by_mate) S.settled;
        }
      where
        x : ℕ
        x = tail g j

        y : ℕ
        y = head g j

        by_base : j ≡ st.via (st.base y) → Settled g new j
        by_base q =
            by_test (C (st.base y))
            (λ t.
            let a : parent_base g st (st.base y) ≡ st.base x = ap (λ (z : ℕ). st.base (tail g z)) (sym q) in
            inl (bud_base x (rw a at (ups (st.base y) t)) ∙ sym (N.base_in y t), N.reached_in y t))
            (λ t. inr (inl (q ∙ sym (via_same (st.base y) (head_base j S)) ∙ ap new.via (sym (N.base_out y t)))))

        by_mate : mate j ≡ st.via (st.base x) → Settled g new j
        by_mate q =
            by_test (C (st.base x))
            (λ t.
            let a : parent_base g st (st.base x) ≡ st.base y =
            ap (λ (z : ℕ). st.base (tail g z)) (sym q) ∙ ap st.base (mate_arc g d j h).1 ∙ I.base_mate y in
            let u = rw a at (ups (st.base x) t) in
            inl (N.base_in x t ∙ sym (bud_base y u), bud_reached y u))
            (λ t.
            inr (inr (q ∙ sym (via_same (st.base x) (I.base_base x S.tail_reached)) ∙ ap new.via (sym (N.base_out x t)))))

    pub bud_step_settles : (j : ℕ) → st.reached (tail g j) ≡ true → st.reached (mate (head g j)) ≡ true → InBud (tail g j) → InBud (head g j) →
        SettledArc g new j
    bud_step_settles j l m x y =
        record {
          tail_reached = N.reached_still (tail g j) l;
          mate_reached = N.reached_still (mate (head g j)) m;
          settled = inl (bud_base (tail g j) x ∙ sym (bud_base (head g j) y), bud_reached (head g j) y);
        }
