-- The ascent from the two ends of an arc to the base that absorbs the others, on the tables.
--   Between g L k e vias marks p q      the two ends of arc e on their way up: at bases p and q, what is absorbed below them marked and labelled
--   Ascending g L i e ..                so by every clock at which arc i asks for a step; and there is one. e is i or its mate
--   ascending_start                     before the first absorption
--   mates, turned                       seen from the arc's mate the ends change places
--   Standing                            where a base and its mate stand in the tables
--   Rising, rising, rising_other        where the base at q, or at p, is not the earlier one, it can be absorbed; once it is, that end has an earlier base
--   ascended                            both ends at one base
use mathlib.Core.Path.{◌≡◌, refl, sym, ap, subst, ◌∙◌}
use mathlib.Core.Logic.{◌⊎◌, inl, inr, ◌≢◌, ⊎_elim}
use mathlib.Core.Bool.{Bool, true, false}
use mathlib.Core.List.{List}
use Prim.Native.Nat.{ℕ, ◌/◌, ◌≤◌, ◌<◌}
use native.Mathlib.Omega.{arith}
use lib.Dec.{eqb}
use lib.ListN.{length, get_or, set, length-set}
use lib.Seq.{get_or-set_same, get_or-set_other}
use borrow.Author.Rules.{rules}
use borrow.Author.Tests.{eqb-true, eq-eqb}
use Rattle.counting.proofs.Booleans.{by_test, true_false, same_or}
use Rattle.skew.specs.Graph.{Graph, mate, nodes}
use Rattle.skew.specs.Paths.{tail, head, SkewSymmetric}
use Rattle.skew.specs.Search.{State, BaseArc, ReachedEnds, parent_base, Invariant}
use Rattle.skew.specs.Ascent.{InAbsorbed, AddsBase}
use Rattle.skew.proofs.Mates.{mate_mate, mate_half, mate_below}
use Rattle.skew.proofs.Paths.{mate_arc}
use Rattle.skew.proofs.Ascent.{Climb, climb_start, climb_mirror, ClimbEnd, climb_end, climb_arc, climb_absorb, climb_same}
use Rattle.search.specs.Tables.{Labels, labels}
use Rattle.search.specs.State.{state_in, SearchHeld, Clear, absorbed_in, vias_of}
use Rattle.search.specs.Steps.{Bridging, labelled, Absorbs, Absorbed, Ascended}
use Rattle.search.proofs.States.{reached_is_node, unreached_is, not_reached, tail_base, head_base, arc_within}

pub record Standing (N : Labels) (q : ℕ) : Type 0 where
  pub small : q < 256
  pub in_births : q < length N.births
  pub mate_in_births : mate q < length N.births
  pub mate_in_vias : mate q < length N.vias

-- base b is absorbed, or one of the two that the ends are at
abbrev Among : (marks : List Bool) (p q b : ℕ) → Type 0
Among marks p q b = (absorbed_in marks b ≡ true) ⊎ ((b ≡ p) ⊎ (b ≡ q))

pub record Between (g : Graph) (L : Labels) (k e : ℕ) (vias : List ℕ) (marks : List Bool) (p q : ℕ) : Type 0 where
  pub search : SearchHeld g L k
  pub is_arc : e < length g.arcs
  pub climb : Climb g (state_in L k) (absorbed_in marks) (vias_of vias) e p q
  pub vias_long : length vias ≡ nodes g
  pub marks_long : length marks ≡ nodes g
  pub parents : (b : ℕ) → absorbed_in marks b ≡ true → Among marks p q (parent_base g (state_in L k) b)
  pub tail_in : Among marks p q ((state_in L k).base (tail g e))
  pub head_in : Among marks p q ((state_in L k).base (head g e))

between_start : {g : Graph} {L : Labels} {k i : ℕ} {marks : List Bool} → Bridging g L k i → Clear false (length L.births) marks →
    Between g L k i L.vias marks (get_or L.bases (tail g i / 2) 0) (get_or L.bases (mate (head g i) / 2) 0)
between_start {g} {L} {k} {i} {marks} A C =
    let a = A.joining.leaving in
    let S = a.held in
    let at_tail = tail_base S a.is_arc in
    let at_head = head_base S a.is_arc ∙ ap (λ (x : ℕ). get_or L.bases x 0) (sym (mate_half (head g i))) in
    let unmarked : (u : ℕ) → absorbed_in marks u ≡ true → ⊥ = λ u t. true_false t (C.each u) in
    let reached : ReachedEnds g (state_in L k) i = record { tail_reached = a.tail_reached; mate_reached = A.joining.mate_reached } in
    record {
      search = S;
      is_arc = a.is_arc;
      climb = climb_start a.is_arc reached A.unsettled unmarked at_tail (S.state.invariant.base_mate (head g i) ∙ at_head);
      vias_long = S.state.vias_long;
      marks_long = C.long ∙ S.state.births_long;
      parents = λ u t. absurd (unmarked u t);
      tail_in = inr (inl at_tail);
      head_in = inr (inr at_head);
    }

module _ {g : Graph} {L : Labels} {k e : ℕ} {vias : List ℕ} {marks : List Bool} {p q : ℕ} (B : Between g L k e vias marks p q) where
  abbrev st : State
  st = state_in L k

  abbrev d : SkewSymmetric g
  d = B.search.table.well_formed.symmetric

  abbrev I : Invariant g st
  I = B.search.state.invariant

  mirror : Between g L k (mate e) vias marks q p
  mirror =
      let m = mate_arc g d e B.is_arc in
      let turn : (b : ℕ) → Among marks p q b → Among marks q p b = λ b. ⊎_elim (λ a. inl a) (λ a. inr (⊎_elim (λ x. inr x) (λ x. inl x) a)) in
      record {
        search = B.search;
        is_arc = m.0;
        climb = climb_mirror d I B.climb;
        vias_long = B.vias_long;
        marks_long = B.marks_long;
        parents = λ b t. turn _ (B.parents b t);
        tail_in = rw (m.1, I.base_mate (head g e)) (turn _ B.head_in);
        head_in = rw (m.2, I.base_mate (tail g e)) (turn _ B.tail_in);
      }

  end : ClimbEnd st (absorbed_in marks) (vias_of vias) q
  end = climb_end d I B.climb

  q_node : q < nodes g
  q_node = reached_is_node B.search.state q end.is_base.reached

  abbrev now : Labels
  now = labels L.births vias L.bases

  stands : Standing now q
  stands = let n = q_node in let m = mate_below q (nodes g) (omega arith) n in search rules

  -- ONE ABSORPTION: q marked, its mate labelled where it is new
  abbrev vias' : List ℕ
  vias' = (labelled now (mate q) e).vias

  vias_still_long : length vias' ≡ nodes g
  vias_still_long =
      by_test (eqb (get_or L.births (mate q) 0) 0) (λ t. rw t (length-set vias (mate q) e ∙ B.vias_long)) (λ t. rw t B.vias_long)

  via_old : (u : ℕ) → (st.reached u ≡ true) ⊎ InAbsorbed st (absorbed_in marks) u → vias_of vias' u ≡ vias_of vias u
  via_old u h =
      let n = get_or L.births (mate q) 0 in
      let other : n ≡ 0 → u ≢ mate q =
      λ z r.
      let b : st.base u ≡ q = ap st.base r ∙ end.mate_in in
      ⊎_elim (λ l. true_false (rw r at l) (not_reached n z)) (λ a. true_false (rw b at a) end.out) h in
      by_test (eqb n 0) (λ t. rw (t, get_or-set_other vias (mate q) u e 0 (other (eqb-true n 0 t)))) (λ t. rw t)

  adds : AddsBase st (absorbed_in marks) (vias_of vias) q e (absorbed_in (set marks q true)) (vias_of vias')
  adds =
      let s = stands in
      let same : get_or (set marks q true) q false ≡ true = get_or-set_same marks q true false (omega arith) in
      record {
        here = rw same;
        old = λ x h. ⊎_elim (λ (r : x ≡ q). rw (r, same)) (λ m. rw (get_or-set_other marks q x true false m) h) (same_or x q);
        back = λ x h. ⊎_elim (λ r. inl r) (λ m. inr (rw (get_or-set_other marks q x true false m) at h)) (same_or x q);
        via_new = λ f. rw (eq-eqb (get_or L.births (mate q) 0) 0 (unreached_is _ f)) (get_or-set_same vias (mate q) e 0 s.mate_in_vias);
        via_old = via_old;
      }

  -- THE END AT q goes up
  module _ (ne : p ≢ q) (le : get_or L.births p 0 ≤ get_or L.births q 0) where
    base_arc : BaseArc g st q
    base_arc = climb_arc d I B.climb ne le

    via_same : get_or vias' q 0 ≡ get_or L.vias q 0
    via_same = via_old q (inl end.is_base.reached) ∙ end.via_old q end.is_base.reached

    parent_is : parent_base g st q ≡ get_or L.bases (tail g (get_or vias' q 0) / 2) 0
    parent_is = rw via_same (tail_base B.search base_arc.is_arc)

    absorbs : Absorbs g now marks q e
    absorbs =
        let s = stands in
        let W = arc_within B.search base_arc.is_arc in
        let is_arc : get_or vias' q 0 < length g.arcs = rw via_same W.is_arc in
        let in_bases : tail g (get_or vias' q 0) / 2 < length L.bases = rw via_same W.tail_in_bases in
        search rules

    next : Between g L k e vias' (set marks q true) p (parent_base g st q)
    next =
        let kept : (b : ℕ) → Among marks p q b → Among (set marks q true) p (parent_base g st q) b =
        λ b. ⊎_elim (λ a. inl (adds.old b a)) (⊎_elim (λ a. inr (inl a)) (λ a. inl (rw a adds.here))) in
        record {
          search = B.search;
          is_arc = B.is_arc;
          climb = climb_absorb d I B.climb ne le adds;
          vias_long = vias_still_long;
          marks_long = length-set marks q true ∙ B.marks_long;
          parents = λ b t. ⊎_elim (λ (s : b ≡ q). inr (inr (ap (parent_base g st) s))) (λ m. kept _ (B.parents b m)) (adds.back b t);
          tail_in = kept _ B.tail_in;
          head_in = kept _ B.head_in;
        }

  -- BOTH ENDS at one base
  met : p ≡ q → Ascended g L k e (labelled now (mate p) e) marks p
  met same =
      let r = climb_same d I B.climb same adds in
      let one : (b : ℕ) → Among marks p q b → (absorbed_in marks b ≡ true) ⊎ (b ≡ q) =
      λ b. ⊎_elim (λ a. inl a) (⊎_elim (λ a. inr (a ∙ same)) (λ a. inr a)) in
      rw same
      (record {
        births_same = refl;
        bases_same = refl;
        absorbable = r.0;
        some = r.1;
        is_node = q_node;
        vias_long = vias_still_long;
        marks_long = B.marks_long;
        parents = λ b t. one _ (B.parents b t);
        tail_in = one _ B.tail_in;
        head_in = one _ B.head_in;
      })

-- THE LOOP'S STATE: N are the labels now
pub record Ascending (g : Graph) (L : Labels) (i e : ℕ) (N : Labels) (marks : List Bool) (p q : ℕ) : Type 0 where
  pub some : (k : ℕ) × Bridging g L k i
  pub every : (k : ℕ) → Bridging g L k i → Between g L k e N.vias marks p q
  pub now_is : N ≡ labels L.births N.vias L.bases
  pub at_p : Standing N p
  pub at_q : Standing N q

pub record Rising (g : Graph) (L : Labels) (i e : ℕ) (N : Labels) (marks : List Bool) (p q : ℕ) : Type 0 where
  pub absorbs : Absorbs g N marks q e
  pub next : {N' : Labels} {marks' : List Bool} {r : ℕ} → Absorbed g N marks q e N' marks' r →
      Ascending g L i e N' marks' p r × (get_or L.births r 0 < get_or L.births q 0)

ascending : {g : Graph} {L : Labels} {i e : ℕ} {N : Labels} {marks : List Bool} {p q : ℕ} → (k : ℕ) × Bridging g L k i →
    ((k : ℕ) → Bridging g L k i → Between g L k e N.vias marks p q) → N ≡ labels L.births N.vias L.bases → Ascending g L i e N marks p q
ascending {p = p} {q} S every now_is =
    let one = every S.0 S.1 in
    record {
      some = S;
      every = every;
      now_is = now_is;
      at_p = subst (λ (M : Labels). Standing M p) (sym now_is) (stands (mirror one));
      at_q = subst (λ (M : Labels). Standing M q) (sym now_is) (stands one);
    }

pub ascending_start : {g : Graph} {L : Labels} {i : ℕ} {marks : List Bool} → (k : ℕ) × Bridging g L k i → Clear false (length L.births) marks →
    Ascending g L i i L marks (get_or L.bases (tail g i / 2) 0) (get_or L.bases (mate (head g i) / 2) 0)
ascending_start S C = ascending S (λ k B. between_start B C) refl

pub mates : {e f : ℕ} → f ≡ mate e → e ≡ mate f
mates {e} m = sym (ap mate m ∙ mate_mate e)

module _ {g : Graph} {L : Labels} {i e : ℕ} {N : Labels} {marks : List Bool} {p q : ℕ} (A : Ascending g L i e N marks p q) where
  abbrev one : Between g L A.some.0 e N.vias marks p q
  one = A.every A.some.0 A.some.1

  pub turned : {f : ℕ} → f ≡ mate e → Ascending g L i f N marks q p
  turned m = ascending A.some (λ k B. rw m (mirror (A.every k B))) A.now_is

  pub rising : p ≢ q → get_or N.births p 0 ≤ get_or N.births q 0 → Rising g L i e N marks p q
  rising ne h =
      let le : get_or L.births p 0 ≤ get_or L.births q 0 = subst (λ (M : Labels). get_or M.births p 0 ≤ get_or M.births q 0) A.now_is h in
      record {
        absorbs = subst (λ (M : Labels). Absorbs g M marks q e) (sym A.now_is) (absorbs one ne le);
        next = λ {N'} {marks'} {r} b.
            let d : Absorbed g (labels L.births N.vias L.bases) marks q e N' marks' r =
            subst (λ (M : Labels). Absorbed g M marks q e N' marks' r) A.now_is b in (
              ascending A.some (λ k B. let C = A.every k B in rw (d.labels_are, d.marks_are, d.parent, ← parent_is C ne le) (next C ne le))
                  (rw d.labels_are),
              rw (d.parent, ← parent_is one ne le) (base_arc one ne le).base_earlier,
            );
      }

  pub ascended : p ≡ q → {N' : Labels} → N' ≡ labelled N (mate p) e → (k : ℕ) → Bridging g L k i → Ascended g L k e N' marks p
  ascended same {N'} f k B =
      let d : N' ≡ labelled (labels L.births N.vias L.bases) (mate p) e = subst (λ (M : Labels). N' ≡ labelled M (mate p) e) A.now_is f in
      rw d (met (A.every k B) same)

pub rising_other : {g : Graph} {L : Labels} {i e f : ℕ} {N : Labels} {marks : List Bool} {p q : ℕ} → Ascending g L i e N marks p q → f ≡ mate e →
    p ≢ q → get_or N.births q 0 < get_or N.births p 0 → Rising g L i f N marks q p
rising_other A m ne h = rising (turned A m) (λ e. ne (sym e)) (omega arith)
