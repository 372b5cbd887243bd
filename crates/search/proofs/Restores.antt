-- Restoration follows the path that the labels give: what its places ask, and what it has pushed.
--   Split, split             a path by its last label: the path to the arc's tail, the arc, and the path within the bud
--   split_first, _second     the two inner calls
--   first_falls, second_falls    the birth number falls there
--   first_pushed, arc_room   the first inner call has pushed its part, behind which there is room for the arc
--   SecondPushed, second_pushed    the second inner call has pushed its part, still to be turned
--   restored_stop, _arc, _bud    the path is pushed: it ends here; with the arc; with the arc and the bud's path behind it
use mathlib.Core.Path.{◌≡◌, refl, sym, ap, subst, ◌∙◌}
use mathlib.Core.Logic.{◌≢◌, ⊎_elim}
use mathlib.Core.Bool.{Bool}
use mathlib.Core.List.{List, [], ◌∷◌, ◌++◌, append_assoc}
use Prim.Native.Nat.{ℕ, zero, suc, ◌+◌, ◌*◌, ◌-◌, ◌≤◌, ◌<◌}
use native.Mathlib.Omega.{arith}
use lib.Dec.{ltb}
use borrow.Rule.Slice.PartMut.{put_mid}
use lib.ListN.{length, get_or, take, drop, length-append, get_or-eq_default}
use borrow.Author.Tests.{ltb-true, ltb-false}
use Rattle.formats.specs.Limits.{arcs_most}
use Rattle.counting.specs.Lists.{reverse_map}
use Rattle.counting.specs.SliceVecs.{Extended}
use Rattle.counting.specs.declared.slice_vec.SliceVec.{SliceVec}
use Rattle.counting.proofs.Booleans.{by_test, true_false}
use Rattle.counting.proofs.Reversal.{length_reverse}
use Rattle.counting.proofs.SliceVecs.{extended_then, extended_long}
use Rattle.skew.specs.Graph.{Graph, mate}
use Rattle.skew.specs.Paths.{tail, head, Joins}
use Rattle.skew.specs.Segments.{Seg, done, step}
use Rattle.skew.proofs.Segments.{seg_unique, seg_joins}
use Rattle.search.specs.Tables.{Labels}
use Rattle.search.specs.Restore.{Route, LabelTable, Restorable, Restored}
use Rattle.search.proofs.States.{not_reached}
use Rattle.search.proofs.Reverses.{stored_part, part_sets}

segment_stop : {g : Graph} {reached : ℕ → Bool} {via : ℕ → ℕ} {stop v : ℕ} {p : List ℕ} → v ≡ stop → Seg g reached via stop v p → p ≡ []
segment_stop e done = refl
segment_stop e (step l m h x y) = absurd (m e)

-- A PATH BY ITS LAST LABEL
pub record Split (g : Graph) (L : Labels) (stop v at size : ℕ) : Type 0 where
  pub labels : LabelTable g L
  pub before : List ℕ
  pub inside : List ℕ
  pub small : v < 256
  pub in_vias : v < length L.vias
  pub is_arc : get_or L.vias v 0 < length g.arcs
  pub to_tail : Route g L stop (tail g (get_or L.vias v 0)) before
  pub to_head : Route g L (mate v) (mate (head g (get_or L.vias v 0))) inside
  pub tail_falls : get_or L.births (tail g (get_or L.vias v 0)) 0 < get_or L.births v 0
  pub head_falls : head g (get_or L.vias v 0) ≢ v → get_or L.births (mate (head g (get_or L.vias v 0))) 0 < get_or L.births v 0
  pub whole : (p : List ℕ) → Route g L stop v p → p ≡ before ++ get_or L.vias v 0 ∷ reverse_map mate inside
  pub room : at + length before + 1 + length inside ≤ size

length_whole : (p q : List ℕ) (e : ℕ) → length (p ++ e ∷ reverse_map mate q) ≡ length p + 1 + length q
length_whole p q e = length-append p (e ∷ reverse_map mate q) ∙ omega (arith, length_reverse mate q)

split_by : {g : Graph} {L : Labels} {stop v at size : ℕ} {p : List ℕ} → LabelTable g L → at + length p ≤ size → v ≢ stop →
    Route g L stop v p → Split g L stop v at size
split_by T room ne done = absurd (ne refl)
split_by {g} {L} {stop} {v} T room ne (step {p = p₁} {q = p₂} l m h x y) =
    let low : v < 2 * g.pairs =
    by_test (ltb v (length L.births)) (λ t. omega (arith, T.births_long, ltb-true v (length L.births) t))
    (λ t. true_false l (not_reached (get_or L.births v 0) (get_or-eq_default L.births 0 (ltb-false v (length L.births) t)))) in
    record {
      labels = T;
      before = p₁;
      inside = p₂;
      small = omega (arith, T.table.pairs_few);
      in_vias = omega (arith, T.vias_long);
      is_arc = h;
      to_tail = x;
      to_head = y;
      tail_falls = T.tail_earlier v l h;
      head_falls = λ q. ⊎_elim (λ k. absurd (q k)) (λ k. k) (T.head_earlier v l h);
      whole = λ p r. seg_unique r (step l m h x y);
      room = omega (arith, room, length_whole p₁ p₂ (get_or L.vias v 0));
    }

module _ {g : Graph} {L : Labels} {stop v at size : ℕ} where
  pub split : Restorable g L stop v at size → v ≢ stop → Split g L stop v at size
  split R ne = split_by R.labels R.room ne R.route

  module _ (K : Split g L stop v at size) where
    -- THE TWO INNER CALLS
    pub split_first : {x : ℕ} → x ≡ tail g (get_or L.vias v 0) → Restorable g L stop x at size
    split_first e =
        record {
          labels = K.labels;
          path = K.before;
          route = subst (λ (z : ℕ). Route g L stop z K.before) (sym e) K.to_tail;
          room = omega (arith, K.room);
        }

    pub first_falls : {x : ℕ} → x ≡ tail g (get_or L.vias v 0) → get_or L.births x 0 < get_or L.births v 0
    first_falls e = rw e K.tail_falls

    pub second_falls : {y w : ℕ} → y ≡ head g (get_or L.vias v 0) → w ≡ mate y → y ≢ v → get_or L.births w 0 < get_or L.births v 0
    second_falls ey ew ne = rw (ew, ey) (K.head_falls (λ q. ne (ey ∙ q)))

    inside_route : {y m w : ℕ} → y ≡ head g (get_or L.vias v 0) → m ≡ mate v → w ≡ mate y → Route g L m w K.inside
    inside_route {w = w} ey em ew =
        subst (λ (z : ℕ). Route g L z w K.inside) (sym em)
        (subst (λ (z : ℕ). Route g L (mate v) z K.inside) (sym (ew ∙ ap (λ (z : ℕ). mate z) ey)) K.to_head)

-- WHAT THEY HAVE PUSHED
module _ {g : Graph} {L : Labels} {stop v : ℕ} {path : SliceVec ℕ} (K : Split g L stop v path.len (length path.slice.now)) where
  pub first_pushed : {x : ℕ} {w : SliceVec ℕ} → x ≡ tail g (get_or L.vias v 0) → Restored g L stop x path w → Extended path K.before w
  first_pushed e R = R K.before (subst (λ (z : ℕ). Route g L stop z K.before) (sym e) K.to_tail)

  pub arc_room : {w : SliceVec ℕ} → Extended path K.before w → w.len < length w.slice.now
  arc_room F = omega (arith, F.len_is, extended_long F, K.room)

  module _ {w : SliceVec ℕ} (F : Extended path (K.before ++ get_or L.vias v 0 ∷ []) w) where
    arc_place : w.len ≡ path.len + length K.before + 1
    arc_place = omega (arith, F.len_is, length-append K.before (get_or L.vias v 0 ∷ []))

    pub restored_arc : {y : ℕ} → y ≡ head g (get_or L.vias v 0) → y ≡ v → Restored g L stop v path w
    restored_arc ey q p r =
        let z : K.inside ≡ [] = segment_stop (ap (λ (k : ℕ). mate k) (sym ey ∙ q)) K.to_head in
        rw (K.whole p r ∙ ap (λ (l : List ℕ). K.before ++ get_or L.vias v 0 ∷ reverse_map mate l) z) F

    pub split_second : {y m v' : ℕ} → y ≡ head g (get_or L.vias v 0) → m ≡ mate v → v' ≡ mate y → Restorable g L m v' w.len (length w.slice.now)
    split_second ey em ew =
        record { labels = K.labels; path = K.inside; route = inside_route K ey em ew; room = omega (arith, K.room, arc_place, extended_long F) }

    arcs_low : (u t : ℕ) (p : List ℕ) → Joins g u t p → (j : ℕ) → j < length p → get_or p j 0 < length g.arcs
    arcs_low u t [] J j h = absurd (omega arith)
    arcs_low u t (i ∷ is) J zero h = J.0
    arcs_low u t (i ∷ is) J (suc j) h = arcs_low (head g i) t is J.2 j (omega arith)

    pub record SecondPushed (w' : SliceVec ℕ) : Type 0 where
      pub pushed : Extended w K.inside w'
      pub range : (w.len ≤ w'.len) × (w'.len ≤ length w'.slice.now)
      pub part : take (w'.len - w.len) (drop w.len w'.slice.now) ≡ K.inside
      pub small : (k : ℕ) → k < length K.inside → get_or K.inside k 0 < arcs_most

    pub second_pushed : {y m v' : ℕ} {w' : SliceVec ℕ} → y ≡ head g (get_or L.vias v 0) → m ≡ mate v → v' ≡ mate y → Restored g L m v' w w' →
        SecondPushed w'
    second_pushed {w' = w'} ey em ew R =
        let E = R K.inside (inside_route K ey em ew) in
        record {
          pushed = E;
          range = (omega (arith, E.len_is), omega (arith, E.len_is, extended_long E, extended_long F, K.room, arc_place));
          part =
              rw E.slice_is
              (stored_part w.slice.now K.inside w.len (w'.len - w.len) (omega (arith, E.len_is)) (omega (arith, extended_long F, K.room, arc_place)));
          small = λ k h.
              let J = seg_joins K.labels.table.well_formed.symmetric K.to_head in
              let o = arcs_low (mate v) (mate (head g (get_or L.vias v 0))) K.inside J k h in omega (arith, K.labels.table.arcs_few);
        }

    pub restored_bud : {w' w'' : SliceVec ℕ} {part : List ℕ} → SecondPushed w' → part ≡ reverse_map mate (take (w'.len - w.len) (drop w.len w'.slice.now)) →
        w''.slice.now ≡ put_mid w.len (w'.len - w.len) w'.slice.now part → w''.len ≡ w'.len → w''.slice.ghost_name ≡ w'.slice.ghost_name →
        Restored g L stop v path w''
    restored_bud {w'} {w''} {part} G M e l n p r =
        let turned : Extended w (reverse_map mate K.inside) w'' =
        record {
          slice_is =
              e ∙ rw (M, G.part, G.pushed.slice_is)
              (part_sets w.slice.now K.inside w.len (w'.len - w.len) (omega (arith, G.pushed.len_is)) (omega (arith, extended_long F, K.room, arc_place))
              (reverse_map mate K.inside) (length_reverse mate K.inside));
          len_is = omega (arith, l, G.pushed.len_is, length_reverse mate K.inside);
          same = n ∙ G.pushed.same;
        } in
        rw (K.whole p r ∙ sym (append_assoc K.before (get_or L.vias v 0 ∷ []) (reverse_map mate K.inside))) (extended_then F turned)

pub restored_stop : (g : Graph) (L : Labels) {stop v : ℕ} (path : SliceVec ℕ) → v ≡ stop → Restored g L stop v path path
restored_stop g L path q p r = let z = segment_stop q r in rw z (record { slice_is = refl; len_is = omega arith; same = refl })
