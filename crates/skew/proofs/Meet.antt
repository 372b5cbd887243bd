-- Both ends stand in one fragment, of base b: what was absorbed on the way becomes part of its bud (document 000, section 2.3).
--   meet      the fragments may be absorbed; in a plain fragment b's mate is reached by the arcs down from v, over the bridge and up to z
use mathlib.Core.Path.{◌≡◌, refl, sym, ap, subst, ◌∙◌}
use mathlib.Core.Logic.{◌⊎◌, inl, inr, ⊎_elim}
use mathlib.Core.Bool.{Bool, true, false, ◌||◌}
use mathlib.Core.List.{List, [], ◌∷◌, ◌++◌}
use Prim.Native.Nat.{ℕ}
use lib.Dec.{eqb}
use borrow.Author.Tests.{eq-eqb}
use Rattle.counting.specs.Lists.{reverse_map}
use Rattle.skew.specs.Graph.{Graph, mate}
use Rattle.skew.specs.Paths.{RegularPath, SkewSymmetric}
use Rattle.skew.specs.Segments.{Seg, done, LabelledPath}
use Rattle.skew.specs.Search.{State, IsBase, InFragment, ReachedEnds, Invariant}
use Rattle.skew.specs.Steps.{InUnion, reached_after, Absorbable}
use Rattle.skew.specs.Ascent.{Bridge, InAbsorbed, Labels, ReachesInto, Ends}
use Rattle.counting.proofs.Booleans.{or_right, by_test}
use Rattle.skew.proofs.Mates.{mate_mate, mate_other}
use Rattle.skew.proofs.RegularPaths.{concat}
use Rattle.skew.proofs.Segments.{seg_step, seg_mono}
use Rattle.skew.proofs.Fragments.{fragment_closed, absorbed_closed, fragment_outside, plain_base}
use Rattle.skew.proofs.Mirror.{bridge_ends}

module _ (g : Graph) (d : SkewSymmetric g) (st : State) (I : Invariant g st) (C : ℕ → Bool) (via via' : ℕ → ℕ) (e v₀ z₀ v z : ℕ)
    (dv dz : List ℕ) (B : Bridge g st e v₀ z₀) (E : Ends g st C via v₀ z₀ v z dv dz) (same : st.base v ≡ st.base z)
    (via_new : st.reached (mate (st.base v)) ≡ false → via' (mate (st.base v)) ≡ e)
    (via_old : (u : ℕ) → (st.reached u ≡ true) ⊎ InAbsorbed st C u → via' u ≡ via u) where
  abbrev b : ℕ
  b = st.base v

  base_b : IsBase st b
  base_b = I.base_base v E.reached_v

  out_b : C (st.base b) ≡ false
  out_b = rw base_b.self E.out_v

  -- the labels of the new state
  abbrev labels : Labels st C via
  labels =
      record {
        reached' = reached_after st C b;
        via' = via';
        keeps = λ u k.
            (⊎_elim (λ l. rw l) (λ h. or_right (st.reached u) (C (st.base u) || eqb u (mate b)) (rw h)) k, via_old u k);
      }

  kept : (u : ℕ) → st.reached u ≡ true → (reached_after st C b u ≡ true) × (via' u ≡ st.via u)
  kept u l = ((labels.keeps u (inl l)).0, via_old u (inl l) ∙ E.via_old u l)

  abbrev BudPath : ℕ → Type 0
  BudPath u = LabelledPath g (InUnion st C b) (reached_after st C b) via' b u

  -- from the base to an end, and on into the absorbed fragments
  through_end : (w : ℕ) → st.reached w ≡ true → st.base w ≡ b → (u : ℕ) → ReachesInto g st C via w u → BudPath u
  through_end w l q u k =
      let H = k.0 in
      let r = subst (λ (y : ℕ). LabelledPath g (InFragment st y) st.reached st.via y w) q (I.path w l) in (
        r.0 ++ H.entry ∷ H.inside,
        concat d (fragment_closed g st I b) (absorbed_closed g st I C) (fragment_outside g st I C b E.out_v) r.1 H.is_arc
            H.tail_is H.path,
        k.1 labels b r.0 out_b (seg_mono kept r.2),
      )

  -- in a plain fragment both ends are the base, and the labels lead round to its mate
  round : st.reached (mate b) ≡ false → Seg g (reached_after st C b) via' b (mate b) (dv ++ e ∷ reverse_map mate dz)
  round t =
      let at : (w : ℕ) → w ≡ b → Seg g (reached_after st C b) via' b w [] =
      λ w q. subst (λ (k : ℕ). Seg g (reached_after st C b) via' b k []) (sym q) done in
      let sv = E.seg_v labels b [] out_b (at v (plain_base g st I b v base_b t E.reached_v refl)) in
      let sz = E.seg_z labels b [] out_b (at z (plain_base g st I b z base_b t E.reached_z (sym same))) in
      let lm : reached_after st C b (mate b) ≡ true =
      or_right (st.reached (mate b)) _ (or_right (C (st.base (mate b))) (eqb (mate b) (mate b)) (eq-eqb (mate b) (mate b) refl)) in
      seg_step b (mate b) e v₀ z₀ dv dz lm (mate_other b) (via_new t) B.is_arc B.tail_is (ap mate B.head_is ∙ mate_mate z₀) sv
      (subst (λ (y : ℕ). Seg g (reached_after st C b) via' y z₀ dz) (sym (mate_mate b)) sz)

  pub meet : ((u : ℕ) → InAbsorbed st C u → ReachesInto g st C via v u ⊎ ReachesInto g st C via z u) →
      (st.reached (mate b) ≡ false → RegularPath g (InUnion st C b) b (mate b) (dv ++ e ∷ reverse_map mate dz)) → Absorbable g st C b via'
  meet from_ends path_round =
      record {
        via_old = λ u l. (kept u l).1;
        via_new = λ u k f.
            ⊎_elim (λ t. subst (λ (y : ℕ). ReachedEnds g st y) (sym (via_old u (inr t))) (E.via_new u t f))
            (λ q.
            let m : via' u ≡ e = ap via' q ∙ via_new (rw q at f) in
            subst (λ (y : ℕ). ReachedEnds g st y) (sym m) (bridge_ends d I B))
            k;
        base_is = base_b;
        out = E.out_v;
        bases = E.bases;
        not_source = E.not_source;
        births = E.birth_v;
        path = λ u h. ⊎_elim (through_end v E.reached_v refl u) (through_end z E.reached_z (sym same) u) (from_ends u h);
        path_mate =
            by_test (st.reached (mate b)) (λ t. inl t) (λ t. inr (dv ++ e ∷ reverse_map mate dz, path_round t, round t));
      }
