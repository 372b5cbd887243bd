-- One more fragment is absorbed (document 000, section 2.3). The end z has the later base c; c's fragment is absorbed, and the end moves to
-- the tail x of c's base arc. The way down from x leads over that arc to c, within the fragment to z, and on as before.
--   absorb_first      the first one
--   absorb_next       a further one
use mathlib.Core.Path.{◌≡◌, refl, sym, ap, subst, ◌∙◌}
use mathlib.Core.Logic.{◌⊎◌, inl, inr, ◌≢◌, ⊎_elim}
use mathlib.Core.Bool.{Bool, true, false}
use mathlib.Core.List.{List, [], ◌∷◌, ◌++◌, append_assoc, append-nil}
use Prim.Native.Nat.{ℕ, ◌≤◌}
use native.Mathlib.Omega.{arith}
use Rattle.counting.specs.Lists.{reverse_map}
use Rattle.skew.specs.Graph.{Graph, mate}
use Rattle.skew.specs.Paths.{tail, head, RegularPath, Disjoint, SkewSymmetric}
use Rattle.skew.specs.Segments.{Seg, done, LabelledPath}
use Rattle.skew.specs.Search.{State, IsBase, InFragment, BaseArc, ReachedEnds, Invariant}
use Rattle.skew.specs.Ascent.{Bridge, PathInto, PathThrough, InAbsorbed, Labels, Extends, ReachesInto, Ends, SomeAbsorbed, AddsBase}
use Rattle.counting.proofs.Booleans.{by_test, true_false}
use Rattle.counting.proofs.Reversal.{reverse_append}
use Rattle.skew.proofs.Mates.{mate_mate}
use Rattle.skew.proofs.Paths.{nodes_cons, mate_arc}
use Rattle.skew.proofs.RegularPaths.{path_widen, concat, mate_reverse}
use Rattle.skew.proofs.Segments.{seg_step, spine_nodes, seg_mono, seg_compose}
use Rattle.skew.proofs.Fragments.{fragment_closed, absorbed_closed, fragment_outside, later_not_source}
use Rattle.skew.proofs.Mirror.{bridge_ends}

first_arcs : (e : ℕ) (p dv dz : List ℕ) → dv ≡ [] → dz ≡ [] → e ∷ reverse_map mate p ≡ dv ++ e ∷ reverse_map mate (p ++ dz)
first_arcs e p dv dz kv kz = rw (kv, kz, append-nil p)

module _ (g : Graph) (d : SkewSymmetric g) (st : State) (I : Invariant g st) (C C' : ℕ → Bool) (via via' : ℕ → ℕ) (e v₀ z₀ v z : ℕ)
    (dv dz : List ℕ) (B : Bridge g st e v₀ z₀) (E : Ends g st C via v₀ z₀ v z dv dz) (ne : st.base v ≢ st.base z)
    (le : st.birth (st.base v) ≤ st.birth (st.base z)) (P : AddsBase st C via (st.base z) e C' via') where
  abbrev c : ℕ
  c = st.base z

  base_c : IsBase st c
  base_c = I.base_base z E.reached_z

  not_source : c ≢ g.source
  not_source = later_not_source g st I v c E.reached_v ne le

  arc_c : BaseArc g st c
  arc_c = I.base_arc c base_c not_source

  abbrev x : ℕ
  x = tail g (st.via c)

  -- THE SETS: absorbed before, and c's fragment
  old_in : (u : ℕ) → InAbsorbed st C u → InAbsorbed st C' u
  old_in u h = P.old (st.base u) h

  new_in : (u : ℕ) → InFragment st c u → InAbsorbed st C' u
  new_in u q = rw q P.here

  apart : Disjoint (InFragment st c) (InAbsorbed st C)
  apart = fragment_outside g st I C c E.out_z

  outside : (a : ℕ) → C' (st.base a) ≡ false → (C (st.base a) ≡ false) × ((w : ℕ) → st.base w ≡ c → w ≢ a)
  outside a o = (
    by_test (C (st.base a)) (λ t. true_false (old_in a t) o) (λ t. t),
    λ w q r. true_false (new_in a (subst (λ (y : ℕ). st.base y ≡ c) r q)) o,
  )

  -- LABELS that agree with the new ones agree with the old ones, and with the state's at reached nodes
  abbrev earlier : Labels st C' via' → Labels st C via
  earlier N =
      record {
        reached' = N.reached';
        via' = N.via';
        keeps = λ u k. let r = N.keeps u (⊎_elim (λ l. inl l) (λ h. inr (old_in u h)) k) in (r.0, r.1 ∙ P.via_old u k);
      }

  kept : (N : Labels st C' via') (u : ℕ) → st.reached u ≡ true → (N.reached' u ≡ true) × (N.via' u ≡ st.via u)
  kept N u l = let r = N.keeps u (inl l) in (r.0, r.1 ∙ P.via_old u (inl l) ∙ E.via_old u l)

  still : (w u : ℕ) (l : List ℕ) → Extends g st C via w u l → Extends g st C' via' w u l
  still w u l f N a p o s = f (earlier N) a p (outside a o).0 s

  -- DOWN THE BASE ARC: from x to c and within the fragment to a reached node
  module _ (u : ℕ) (q : st.base u ≡ c) (l : st.reached u ≡ true) where
    local : LabelledPath g (InFragment st c) st.reached st.via c u
    local = subst (λ (b : ℕ). LabelledPath g (InFragment st b) st.reached st.via b u) q (I.path u l)

    -- what follows the base arc
    entered : RegularPath g (InFragment st c) (head g (st.via c)) u local.0
    entered = rw arc_c.head_is local.1

    down : Extends g st C' via' x u (st.via c ∷ local.0)
    down N a p o s =
        let k = kept N c base_c.reached in
        let n = (outside a o).1 in
        let S = local.2 in
        let at_c : Seg g N.reached' N.via' a c (p ++ st.via c ∷ []) =
        seg_step a c (st.via c) x (mate c) p [] k.0 (n c base_c.self) k.1 arc_c.is_arc refl (ap mate arc_c.head_is) s done in
        rw (← (append_assoc p (st.via c ∷ []) local.0))
        (seg_compose (kept N) S (λ m. n a (local.1.within a (spine_nodes d S a m)) refl) at_c)

    into_fragment : ReachesInto g st C' via' x u
    into_fragment = (
      record { entry = st.via c; inside = local.0; is_arc = arc_c.is_arc; tail_is = refl; path = path_widen new_in entered },
      down,
    )

  -- the way from c to z
  abbrev way : LabelledPath g (InFragment st c) st.reached st.via c z
  way = local z refl E.reached_z

  abbrev cz : List ℕ
  cz = way.0

  -- and back from z's mate to c's mate
  back : RegularPath g (InFragment st c) (mate z) (mate c) (reverse_map mate cz)
  back = mate_reverse d (fragment_closed g st I c) way.1

  down_z : Extends g st C' via' x z (st.via c ∷ cz)
  down_z = down z refl E.reached_z

  -- a way on from z is one from x
  from_x : (u : ℕ) (l : List ℕ) → Extends g st C via z u l → Extends g st C' via' x u (st.via c ∷ (cz ++ l))
  from_x u l f N a p o s =
      rw (← (append_assoc p (st.via c ∷ cz) l)) (f (earlier N) a (p ++ st.via c ∷ cz) (outside a o).0 (down_z N a p o s))

  -- THE ENDS
  via_new : (u : ℕ) → C' (st.base u) ≡ true → st.reached u ≡ false → ReachedEnds g st (via' u)
  via_new u h f = ⊎_elim new old (P.back (st.base u) h)
    where
      old : C (st.base u) ≡ true → ReachedEnds g st (via' u)
      old t = subst (λ (y : ℕ). ReachedEnds g st y) (sym (P.via_old u (inr t))) (E.via_new u t f)

      new : st.base u ≡ c → ReachedEnds g st (via' u)
      new q =
          ⊎_elim (λ l. true_false l f)
          (λ m.
          let k : via' u ≡ e = ap via' m.1 ∙ P.via_new (rw m.1 at f) in
          subst (λ (y : ℕ). ReachedEnds g st y) (sym k) (bridge_ends d I B))
          (I.whole c u base_c q)

  out_x : C' (st.base x) ≡ false
  out_x =
      by_test (C' (st.base x))
      (λ t.
      absurd
      (⊎_elim (λ q. omega (arith, arc_c.base_earlier, ap st.birth q))
      (λ s. omega (arith, arc_c.base_earlier, E.birth_z (st.base x) s)) (P.back (st.base x) t)))
      (λ t. t)

  ends : Ends g st C' via' v₀ z₀ v x dv (st.via c ∷ (cz ++ dz))
  ends =
      record {
        bases = λ k h. ⊎_elim (λ q. rw q base_c) (E.bases k) (P.back k h);
        not_source = λ k h. ⊎_elim (λ q. rw q not_source) (E.not_source k) (P.back k h);
        birth_v = λ k h. ⊎_elim (λ q. rw q le) (E.birth_v k) (P.back k h);
        birth_z = λ k h.
            ⊎_elim (λ q. rw q (omega (arith, arc_c.base_earlier))) (λ t. omega (arith, arc_c.base_earlier, E.birth_z k t)) (P.back k h);
        out_v =
            by_test (C' (st.base v)) (λ t. ⊎_elim (λ q. absurd (ne q)) (λ s. true_false s E.out_v) (P.back (st.base v) t)) (λ t. t);
        out_z = out_x;
        reached_v = E.reached_v;
        reached_z = arc_c.tail_reached;
        via_old = λ u l. P.via_old u (inl l) ∙ E.via_old u l;
        via_new = via_new;
        seg_v = still v v₀ dv E.seg_v;
        seg_z = from_x z₀ dz E.seg_z;
      }

  -- from v a way A leads over the bridge to c's mate; it ends the path through, before the mate of the base arc
  module _ (A : PathInto g (InAbsorbed st C') v (mate c)) (other : A.entry ≢ st.via c)
      (arcs : A.entry ∷ A.inside ≡ dv ++ e ∷ reverse_map mate (cz ++ dz)) where
    to_mate : st.reached (mate c) ≡ false → Extends g st C' via' v (mate c) (A.entry ∷ A.inside)
    to_mate f N a p o s =
        let base_m : st.base (mate c) ≡ c = I.base_mate c ∙ base_c.self in
        let k = N.keeps (mate c) (inr (new_in (mate c) base_m)) in
        let sv = E.seg_v (earlier N) a p (outside a o).0 s in
        let sz = E.seg_z (earlier N) c cz (rw base_c.self E.out_z) (seg_mono (kept N) way.2) in
        subst (λ (l : List ℕ). Seg g N.reached' N.via' a (mate c) l)
        (append_assoc p dv (e ∷ reverse_map mate (cz ++ dz)) ∙ ap (λ (l : List ℕ). p ++ l) (sym arcs))
        (seg_step a (mate c) e v₀ z₀ (p ++ dv) (cz ++ dz) k.0 ((outside a o).1 (mate c) base_m) (k.1 ∙ P.via_new f) B.is_arc
        B.tail_is (ap mate B.head_is ∙ mate_mate z₀) sv
        (subst (λ (y : ℕ). Seg g N.reached' N.via' y z₀ (cz ++ dz)) (sym (mate_mate c)) sz))

    -- c's fragment: a reached node from x, the mate of c, where it is new, from v
    fragment_from : (u : ℕ) → st.base u ≡ c → ReachesInto g st C' via' v u ⊎ ReachesInto g st C' via' x u
    fragment_from u q =
        by_test (st.reached u) (λ l. inr (into_fragment u q l))
        (λ f.
        ⊎_elim (λ l. true_false l f)
        (λ m. inl (subst (λ (k : ℕ). ReachesInto g st C' via' v k) (sym m.1) (A, to_mate (rw m.1 at f)))) (I.whole c u base_c q))

    absorbed : ((u : ℕ) → InAbsorbed st C u → ReachesInto g st C' via' v u ⊎ ReachesInto g st C' via' x u) →
        SomeAbsorbed g st C' via' e v₀ z₀ v x
    absorbed old =
        let r = mate_arc g d (st.via c) arc_c.is_arc in
        record {
          dv = dv;
          dz = st.via c ∷ (cz ++ dz);
          ends = ends;
          some = (c, P.here);
          through =
              record {
                last = mate c;
                into = A;
                exit = mate (st.via c);
                exit_is_arc = r.0;
                exit_tail = r.1 ∙ ap mate arc_c.head_is;
                exit_head = r.2;
                not_mates = λ k. other (k ∙ mate_mate (st.via c));
              };
          arcs =
              ap (λ (l : List ℕ). l ++ mate (st.via c) ∷ []) arcs ∙
              append_assoc dv (e ∷ reverse_map mate (cz ++ dz)) (mate (st.via c) ∷ []);
          from_ends = λ u h. ⊎_elim (fragment_from u) (old u) (P.back (st.base u) h);
        }

  -- the bridge itself leads into the first fragment: it must not be its base arc
  pub absorb_first : v₀ ≡ v → z₀ ≡ z → dv ≡ [] → dz ≡ [] → e ≢ st.via c → ((k : ℕ) → C k ≡ true → ⊥) → SomeAbsorbed g st C' via' e v₀ z₀ v x
  absorb_first ev ez kv kz n none = absorbed A n (first_arcs e cz dv dz kv kz) (λ u k. absurd (none (st.base u) k))
    where
      A : PathInto g (InAbsorbed st C') v (mate c)
      A =
          record {
            entry = e;
            inside = reverse_map mate cz;
            is_arc = B.is_arc;
            tail_is = B.tail_is ∙ ev;
            path =
                subst (λ (k : ℕ). RegularPath g (InAbsorbed st C') k (mate c) (reverse_map mate cz)) (sym (B.head_is ∙ ap mate ez))
                (path_widen new_in back);
          }

  -- the path through what was absorbed before leads into a further one
  module _ (T : PathThrough g (InAbsorbed st C) v z) where
    abbrev H : PathInto g (InAbsorbed st C) v T.last
    H = T.into

    abbrev onward : PathInto g (InAbsorbed st C') v (mate c)
    onward =
        record {
          entry = H.entry;
          inside = H.inside ++ T.exit ∷ reverse_map mate cz;
          is_arc = H.is_arc;
          tail_is = H.tail_is;
          path =
              path_widen (λ u. ⊎_elim (old_in u) (new_in u))
              (concat d (absorbed_closed g st I C) (fragment_closed g st I c) (λ u h q. apart u q h) H.path T.exit_is_arc T.exit_tail
              (subst (λ (k : ℕ). RegularPath g (InFragment st c) k (mate c) (reverse_map mate cz)) (sym T.exit_head) back));
        }

    onward_arcs : H.entry ∷ (H.inside ++ T.exit ∷ []) ≡ dv ++ e ∷ reverse_map mate dz →
        onward.entry ∷ onward.inside ≡ dv ++ e ∷ reverse_map mate (cz ++ dz)
    onward_arcs arcs =
        sym (append_assoc (H.entry ∷ H.inside) (T.exit ∷ []) (reverse_map mate cz)) ∙
        ap (λ (l : List ℕ). l ++ reverse_map mate cz) arcs ∙ append_assoc dv (e ∷ reverse_map mate dz) (reverse_map mate cz) ∙
        ap (λ (l : List ℕ). dv ++ e ∷ l) (sym (reverse_append mate cz dz))

    -- it does not start with c's base arc, which leads into c's fragment
    onward_other : H.entry ≢ st.via c
    onward_other k =
        let y = head g H.entry in
        apart y (ap (λ (n : ℕ). st.base (head g n)) k ∙ ap st.base arc_c.head_is ∙ base_c.self)
        (H.path.within y (nodes_cons g y H.inside))

  from_v : (u : ℕ) → ReachesInto g st C via v u → ReachesInto g st C' via' v u
  from_v u k =
      let H = k.0 in (
        record { entry = H.entry; inside = H.inside; is_arc = H.is_arc; tail_is = H.tail_is; path = path_widen old_in H.path },
        still v u (H.entry ∷ H.inside) k.1,
      )

  from_z : (u : ℕ) → ReachesInto g st C via z u → ReachesInto g st C' via' x u
  from_z u k =
      let H = k.0 in (
        record {
          entry = st.via c;
          inside = cz ++ H.entry ∷ H.inside;
          is_arc = arc_c.is_arc;
          tail_is = refl;
          path =
              path_widen (λ w. ⊎_elim (new_in w) (old_in w))
              (concat d (fragment_closed g st I c) (absorbed_closed g st I C) apart (entered z refl E.reached_z) H.is_arc H.tail_is
              H.path);
        },
        from_x u (H.entry ∷ H.inside) k.1,
      )

  pub absorb_next : (T : PathThrough g (InAbsorbed st C) v z) → T.into.entry ∷ (T.into.inside ++ T.exit ∷ []) ≡ dv ++ e ∷ reverse_map mate dz →
      ((u : ℕ) → InAbsorbed st C u → ReachesInto g st C via v u ⊎ ReachesInto g st C via z u) → SomeAbsorbed g st C' via' e v₀ z₀ v x
  absorb_next T arcs from_ends =
      absorbed (onward T) (onward_other T) (onward_arcs T arcs)
      (λ u h. ⊎_elim (λ k. inl (from_v u k)) (λ k. inr (from_z u k)) (from_ends u h))
