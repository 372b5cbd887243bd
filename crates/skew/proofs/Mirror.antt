-- An arc and its mate ask for the same bud: with the mate of the bridge, the two ends of an ascent change places.
--   bridge_ends        a bridge's tail and its head's mate are reached
--   bridge_mirror      the bridge from the other side
--   ascent_mirror      the ascent from the other side
use mathlib.Core.Path.{◌≡◌, sym, ap, subst, ◌∙◌}
use mathlib.Core.Logic.{inl, inr, ⊎_elim}
use mathlib.Core.Bool.{Bool}
use mathlib.Core.List.{List, [], ◌∷◌, ◌++◌, append_assoc}
use Prim.Native.Nat.{ℕ}
use Rattle.counting.specs.Lists.{reverse_map}
use Rattle.skew.specs.Graph.{Graph, mate}
use Rattle.skew.specs.Paths.{head, RegularPath, MateClosed, SkewSymmetric}
use Rattle.skew.specs.Search.{State, ReachedEnds, Invariant}
use Rattle.skew.specs.Ascent.{Bridge, PathThrough, Ends, NoneAbsorbed, SomeAbsorbed, Ascent}
use Rattle.counting.proofs.Reversal.{reverse_append, reverse_twice}
use Rattle.skew.proofs.Mates.{mate_mate}
use Rattle.skew.proofs.Paths.{mate_arc}
use Rattle.skew.proofs.RegularPaths.{mate_reverse}

through_mirror : {g : Graph} → SkewSymmetric g → {S : ℕ → Type 0} → MateClosed S → {v z : ℕ} → PathThrough g S v z → PathThrough g S z v
through_mirror {g} d {S} closed {v} {z} T =
    let H = T.into in
    let a = mate_arc g d H.entry H.is_arc in
    let b = mate_arc g d T.exit T.exit_is_arc in
    record {
      last = mate (head g H.entry);
      into =
          record {
            entry = mate T.exit;
            inside = reverse_map mate H.inside;
            is_arc = b.0;
            tail_is = b.1 ∙ ap mate T.exit_head ∙ mate_mate z;
            path =
                subst (λ (k : ℕ). RegularPath g S k (mate (head g H.entry)) (reverse_map mate H.inside))
                (sym (b.2 ∙ ap mate T.exit_tail)) (mate_reverse d closed H.path);
          };
      exit = mate H.entry;
      exit_is_arc = a.0;
      exit_tail = a.1;
      exit_head = a.2 ∙ ap mate H.tail_is;
      not_mates = λ k. T.not_mates (sym (k ∙ mate_mate H.entry));
    }

reverse_through : (i j : ℕ) (p : List ℕ) → reverse_map mate (i ∷ (p ++ j ∷ [])) ≡ mate j ∷ (reverse_map mate p ++ mate i ∷ [])
reverse_through i j p = ap (λ (l : List ℕ). l ++ mate i ∷ []) (reverse_append mate p (j ∷ []))

reverse_bridge : (e : ℕ) (dv dz : List ℕ) → reverse_map mate (dv ++ e ∷ reverse_map mate dz) ≡ dz ++ mate e ∷ reverse_map mate dv
reverse_bridge e dv dz =
    reverse_append mate dv (e ∷ reverse_map mate dz) ∙
    ap (λ (l : List ℕ). (l ++ mate e ∷ []) ++ reverse_map mate dv) (reverse_twice mate dz mate_mate) ∙
    append_assoc dz (mate e ∷ []) (reverse_map mate dv)

module _ {g : Graph} (d : SkewSymmetric g) {st : State} (I : Invariant g st) where
  pub bridge_ends : {e v₀ z₀ : ℕ} → Bridge g st e v₀ z₀ → ReachedEnds g st e
  bridge_ends {z₀ = z₀} B =
      record { tail_reached = rw B.tail_is B.reached_v₀; mate_reached = rw (B.head_is, mate_mate z₀) B.reached_z₀ }

  pub bridge_mirror : {e v₀ z₀ : ℕ} → Bridge g st e v₀ z₀ → Bridge g st (mate e) z₀ v₀
  bridge_mirror {e} {z₀ = z₀} B =
      let r = mate_arc g d e B.is_arc in
      record {
        is_arc = r.0;
        tail_is = r.1 ∙ ap mate B.head_is ∙ mate_mate z₀;
        head_is = r.2 ∙ ap mate B.tail_is;
        reached_v₀ = B.reached_z₀;
        reached_z₀ = B.reached_v₀;
      }

  ends_mirror : {C : ℕ → Bool} {via : ℕ → ℕ} {v₀ z₀ v z : ℕ} {dv dz : List ℕ} → Ends g st C via v₀ z₀ v z dv dz → Ends g st C via z₀ v₀ z v dz dv
  ends_mirror E =
      record {
        bases = E.bases;
        not_source = E.not_source;
        birth_v = E.birth_z;
        birth_z = E.birth_v;
        out_v = E.out_z;
        out_z = E.out_v;
        reached_v = E.reached_z;
        reached_z = E.reached_v;
        via_old = E.via_old;
        via_new = E.via_new;
        seg_v = E.seg_z;
        seg_z = E.seg_v;
      }

  module _ {C : ℕ → Bool} {via : ℕ → ℕ} {e v₀ z₀ v z : ℕ} where
    none_mirror : NoneAbsorbed g st C via e v₀ z₀ v z → NoneAbsorbed g st C via (mate e) z₀ v₀ z v
    none_mirror A =
        record {
          v_is = A.z_is;
          z_is = A.v_is;
          none = A.none;
          via_old = A.via_old;
          unsettled =
              record {
                not_base_arcs = λ n.
                    let r = A.unsettled.not_base_arcs (λ q. n (sym q)) in (r.1, λ q. r.0 (sym (mate_mate e) ∙ q));
                mate_new = λ q. rw q (A.unsettled.mate_new (sym q));
              };
        }

    some_mirror : SomeAbsorbed g st C via e v₀ z₀ v z → SomeAbsorbed g st C via (mate e) z₀ v₀ z v
    unfolding through_mirror
    some_mirror A =
        let T = A.through in
        record {
          dv = A.dz;
          dz = A.dv;
          ends = ends_mirror A.ends;
          some = A.some;
          through = through_mirror d (λ x h. rw (I.base_mate x) h) T;
          arcs =
              sym (reverse_through T.into.entry T.exit T.into.inside) ∙ ap (reverse_map mate) A.arcs ∙
              reverse_bridge e A.dv A.dz;
          from_ends = λ u h. ⊎_elim (λ a. inr a) (λ a. inl a) (A.from_ends u h);
        }

    pub ascent_mirror : Ascent g st C via e v₀ z₀ v z → Ascent g st C via (mate e) z₀ v₀ z v
    ascent_mirror (inl A) = inl (none_mirror A)
    ascent_mirror (inr A) = inr (some_mirror A)
