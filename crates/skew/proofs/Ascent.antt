-- The ascent as a loop takes it (MEET, BUD): from its start by absorptions to two ends in one fragment.
--   Climb g st C via e p q    an ascent from arc e whose ends are in the fragments of p and q
--   climb_start               before the first absorption
--   climb_mirror              seen from the arc's mate
--   ClimbEnd, climb_end       what is read off the end at q
--   climb_arc                 the end with the later base is not the source's
--   climb_absorb              that end moves up
--   climb_same                both ends in one fragment: what is absorbed, by which base, and that something changes
use mathlib.Core.Path.{◌≡◌, refl, sym, ap, subst, ◌∙◌}
use mathlib.Core.Logic.{◌⊎◌, inl, inr, ◌≢◌, ⊎_elim}
use mathlib.Core.Bool.{Bool, true, false}
use mathlib.Core.List.{List, [], ◌∷◌, ◌++◌, append-nil}
use Prim.Native.Nat.{ℕ, ◌≤◌, ◌<◌}
use lib.ListN.{length}
use Rattle.counting.specs.Lists.{In, reverse_map}
use Rattle.skew.specs.Graph.{Graph, mate, nodes_along}
use Rattle.skew.specs.Paths.{tail, head, RegularPath, SkewSymmetric}
use Rattle.skew.specs.Segments.{Seg}
use Rattle.skew.specs.Search.{State, IsBase, parent_base, BaseArc, ReachedEnds, Invariant}
use Rattle.skew.specs.Steps.{InUnion, Absorbable}
use Rattle.skew.specs.Ascent.{Bridge, Unsettled, Ends, NoneAbsorbed, SomeAbsorbed, Ascent, AddsBase, AscentEnds}
use Rattle.counting.proofs.Booleans.{by_test}
use Rattle.skew.proofs.Mates.{mate_mate, mate_other}
use Rattle.skew.proofs.Paths.{arc_ends, nodes_empty, mate_arc}
use Rattle.skew.proofs.RegularPaths.{path_empty, concat, extend}
use Rattle.skew.proofs.Fragments.{fragment_closed, absorbed_closed, fragment_outside, plain_base, later_not_source}
use Rattle.skew.proofs.Absorb.{absorb_first, absorb_next}
use Rattle.skew.proofs.Meet.{meet}
use Rattle.skew.proofs.Mirror.{bridge_mirror, ascent_mirror}

module _ {g : Graph} (d : SkewSymmetric g) {st : State} (I : Invariant g st) where
  module _ {C : ℕ → Bool} {via : ℕ → ℕ} {e v₀ z₀ v z : ℕ} (B : Bridge g st e v₀ z₀) where
    none_out : NoneAbsorbed g st C via e v₀ z₀ v z → (k : ℕ) → C k ≡ false
    none_out A k = by_test (C k) (λ t. absurd (A.none k t)) (λ t. t)

    ascent_at : Ascent g st C via e v₀ z₀ v z → AscentEnds st C via v z
    ascent_at (inl A) =
        record {
          reached_v = rw A.v_is B.reached_v₀;
          reached_z = rw A.z_is B.reached_z₀;
          out_v = none_out A (st.base v);
          out_z = none_out A (st.base z);
          via_old = A.via_old;
        }
    ascent_at (inr A) =
        let E = A.ends in
        record { reached_v = E.reached_v; reached_z = E.reached_z; out_v = E.out_v; out_z = E.out_z; via_old = E.via_old }

    -- nothing absorbed: no arcs down
    none_ends : NoneAbsorbed g st C via e v₀ z₀ v z → Ends g st C via v₀ z₀ v z [] []
    none_ends A =
        record {
          bases = λ c q. absurd (A.none c q);
          not_source = λ c q. absurd (A.none c q);
          birth_v = λ c q. absurd (A.none c q);
          birth_z = λ c q. absurd (A.none c q);
          out_v = none_out A (st.base v);
          out_z = none_out A (st.base z);
          reached_v = rw A.v_is B.reached_v₀;
          reached_z = rw A.z_is B.reached_z₀;
          via_old = A.via_old;
          via_new = λ u q. absurd (A.none (st.base u) q);
          seg_v = λ N a p o s. rw (append-nil p) (subst (λ (k : ℕ). Seg g N.reached' N.via' a k p) A.v_is s);
          seg_z = λ N a p o s. rw (append-nil p) (subst (λ (k : ℕ). Seg g N.reached' N.via' a k p) A.z_is s);
        }

  ascent_absorb : {C C' : ℕ → Bool} {via via' : ℕ → ℕ} {e v₀ z₀ v z p q : ℕ} → Bridge g st e v₀ z₀ → Ascent g st C via e v₀ z₀ v z →
      st.base v ≡ p → st.base z ≡ q → p ≢ q → st.birth p ≤ st.birth q → AddsBase st C via q e C' via' →
      Ascent g st C' via' e v₀ z₀ v (tail g (st.via q))
  ascent_absorb {C} {C'} {via} {via'} {e} {v₀} {z₀} {v} {z} B (inl A) at_v at_z =
      rw (← at_v, ← at_z)
      (λ ne le P. inr
      (absorb_first g d st I C C' via via' e v₀ z₀ v z [] [] B (none_ends B A) ne le P (sym A.v_is) (sym A.z_is)
      refl refl (A.unsettled.not_base_arcs ne).0 A.none))
  ascent_absorb {C} {C'} {via} {via'} {e} {v₀} {z₀} {v} {z} B (inr A) at_v at_z =
      rw (← at_v, ← at_z)
      (λ ne le P. inr
      (absorb_next g d st I C C' via via' e v₀ z₀ v z A.dv A.dz B A.ends ne le P A.through A.arcs A.from_ends))

  module _ (C C' : ℕ → Bool) (via via' : ℕ → ℕ) (e v₀ z₀ v z : ℕ) (B : Bridge g st e v₀ z₀) (same : st.base v ≡ st.base z)
      (P : AddsBase st C via (st.base v) e C' via') where
    abbrev b : ℕ
    b = st.base v

    -- an arc from b to its mate, where the two are a plain fragment
    none_round : NoneAbsorbed g st C via e v₀ z₀ v z → st.reached (mate b) ≡ false → RegularPath g (InUnion st C b) b (mate b) (e ∷ [])
    none_round A t =
        let E = none_ends B A in
        let r = I.base_base v E.reached_v in
        let vb = plain_base g st I b v r t E.reached_v refl in
        let zb = plain_base g st I b z r t E.reached_z (sym same) in
        let to : head g e ≡ mate b = B.head_is ∙ ap mate (sym A.z_is ∙ zb) in
        subst (λ (k : ℕ). RegularPath g (InUnion st C b) b k (e ∷ [])) to
        (extend (path_empty b (inl r.self)) B.is_arc (B.tail_is ∙ sym A.v_is ∙ vb)
        (inl (ap st.base to ∙ I.base_mate b ∙ r.self)) (λ m. mate_other b (sym to ∙ nodes_empty g b (head g e) m)) (λ m. m))

    -- the path through the absorbed fragments, and its exit to b's mate
    some_round : (A : SomeAbsorbed g st C via e v₀ z₀ v z) → st.reached (mate b) ≡ false →
        RegularPath g (InUnion st C b) b (mate b) (A.dv ++ e ∷ reverse_map mate A.dz)
    unfolding nodes_along
    some_round A t =
        let E = A.ends in
        let T = A.through in
        let H = T.into in
        let r = I.base_base v E.reached_v in
        let self = r.self in
        let apart = fragment_outside g st I C b E.out_v in
        let y = head g T.exit in
        let to : y ≡ mate b = T.exit_head ∙ ap mate (plain_base g st I b z r t E.reached_z (sym same)) in
        let inb : st.base y ≡ b = ap st.base to ∙ I.base_mate b ∙ self in
        let P : RegularPath g (InUnion st C b) b T.last (H.entry ∷ H.inside) =
        concat d (fragment_closed g st I b) (absorbed_closed g st I C) apart (path_empty b self) H.is_arc
        (H.tail_is ∙ plain_base g st I b v r t E.reached_v refl) H.path in
        let fresh : In y (nodes_along g b (H.entry ∷ H.inside)) → ⊥ =
        ⊎_elim (λ k. mate_other b (sym to ∙ k)) (λ m. apart y inb (H.path.within y m)) in
        let free : In (mate T.exit) (H.entry ∷ H.inside) → ⊥ =
        ⊎_elim (λ k. T.not_mates (sym k))
        (λ m.
        let x = tail g (mate T.exit) in
        let i = arc_ends g (head g H.entry) T.last H.inside H.path.joins (mate T.exit) m in
        let f : x ≡ b = (mate_arc g d T.exit T.exit_is_arc).1 ∙ ap mate to ∙ mate_mate b in
        apart x (ap st.base f ∙ self) (H.path.within x i.1)) in
        subst (λ (l : List ℕ). RegularPath g (InUnion st C b) b (mate b) l) A.arcs
        (subst (λ (k : ℕ). RegularPath g (InUnion st C b) b k ((H.entry ∷ H.inside) ++ T.exit ∷ [])) to
        (extend P T.exit_is_arc T.exit_tail (inl inb) fresh free))

    absorbable : Ascent g st C via e v₀ z₀ v z → Absorbable g st C b via'
    absorbable (inl A) =
        meet g d st I C via via' e v₀ z₀ v z [] [] B (none_ends B A) same P.via_new P.via_old (λ u h. absurd (A.none (st.base u) h))
        (none_round A)
    absorbable (inr A) =
        meet g d st I C via via' e v₀ z₀ v z A.dv A.dz B A.ends same P.via_new P.via_old A.from_ends (some_round A)

    progress : Ascent g st C via e v₀ z₀ v z → ((c : ℕ) × (C c ≡ true)) ⊎ (st.reached (mate b) ≡ false)
    progress (inl A) = inr (A.unsettled.mate_new same)
    progress (inr A) = inl A.some

-- THE ENDS AT THEIR BASES
pub record Climb (g : Graph) (st : State) (C : ℕ → Bool) (via : ℕ → ℕ) (e p q : ℕ) : Type 0 where
  pub v₀ : ℕ
  pub z₀ : ℕ
  pub v : ℕ
  pub z : ℕ
  pub at_v : st.base v ≡ p
  pub at_z : st.base z ≡ q
  pub bridge : Bridge g st e v₀ z₀
  pub ascent : Ascent g st C via e v₀ z₀ v z

pub record ClimbEnd (st : State) (C : ℕ → Bool) (via : ℕ → ℕ) (q : ℕ) : Type 0 where
  pub is_base : IsBase st q
  pub mate_in : st.base (mate q) ≡ q
  pub out : C q ≡ false
  pub via_old : (u : ℕ) → st.reached u ≡ true → via u ≡ st.via u

pub climb_start : {g : Graph} {st : State} {C : ℕ → Bool} {e p q : ℕ} → e < length g.arcs → ReachedEnds g st e →
    Unsettled g st e (tail g e) (mate (head g e)) → ((c : ℕ) → C c ≡ true → ⊥) → st.base (tail g e) ≡ p → st.base (mate (head g e)) ≡ q →
    Climb g st C st.via e p q
climb_start {g} {st} {e = e} h R U none at_v at_z =
    record {
      v₀ = tail g e;
      z₀ = mate (head g e);
      v = tail g e;
      z = mate (head g e);
      at_v = at_v;
      at_z = at_z;
      bridge =
          record { is_arc = h; tail_is = refl; head_is = sym (mate_mate (head g e)); reached_v₀ = R.tail_reached; reached_z₀ = R.mate_reached };
      ascent = inl (record { v_is = refl; z_is = refl; none = none; via_old = λ u l. refl; unsettled = U });
    }

module _ {g : Graph} (d : SkewSymmetric g) {st : State} (I : Invariant g st) {C : ℕ → Bool} {via : ℕ → ℕ} {e p q : ℕ}
    (A : Climb g st C via e p q) where
  pub climb_mirror : Climb g st C via (mate e) q p
  climb_mirror =
      record {
        v₀ = A.z₀;
        z₀ = A.v₀;
        v = A.z;
        z = A.v;
        at_v = A.at_z;
        at_z = A.at_v;
        bridge = bridge_mirror d I A.bridge;
        ascent = ascent_mirror d I A.ascent;
      }

  pub climb_end : ClimbEnd st C via q
  climb_end =
      let o = ascent_at d I A.bridge A.ascent in
      let r : IsBase st q = rw A.at_z at (I.base_base A.z o.reached_z) in
      record { is_base = r; mate_in = I.base_mate q ∙ r.self; out = rw A.at_z at o.out_z; via_old = o.via_old }

  pub climb_arc : p ≢ q → st.birth p ≤ st.birth q → BaseArc g st q
  climb_arc ne le =
      let o = ascent_at d I A.bridge A.ascent in
      I.base_arc q climb_end.is_base (later_not_source g st I A.v q o.reached_v (rw A.at_v ne) (rw A.at_v le))

  pub climb_absorb : {C' : ℕ → Bool} {via' : ℕ → ℕ} → p ≢ q → st.birth p ≤ st.birth q → AddsBase st C via q e C' via' →
      Climb g st C' via' e p (parent_base g st q)
  climb_absorb ne le P =
      record {
        v₀ = A.v₀;
        z₀ = A.z₀;
        v = A.v;
        z = tail g (st.via q);
        at_v = A.at_v;
        at_z = refl;
        bridge = A.bridge;
        ascent = ascent_absorb d I A.bridge A.ascent A.at_v A.at_z ne le P;
      }

  pub climb_same : {C' : ℕ → Bool} {via' : ℕ → ℕ} → p ≡ q → AddsBase st C via q e C' via' →
      Absorbable g st C q via' × (((c : ℕ) × (C c ≡ true)) ⊎ (st.reached (mate q) ≡ false))
  climb_same {C'} {via'} same P =
      let at : st.base A.v ≡ q = A.at_v ∙ same in
      let P' : AddsBase st C via (st.base A.v) e C' via' = rw at P in
      rw (← at) (
        absorbable d I C C' via via' e A.v₀ A.z₀ A.v A.z A.bridge (at ∙ sym A.at_z) P' A.ascent,
        progress d I C C' via via' e A.v₀ A.z₀ A.v A.z A.bridge (at ∙ sym A.at_z) P' A.ascent,
      )
