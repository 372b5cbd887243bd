-- The parts of X in a closed state that does not reach the source's mate: they are the trees of the forest of buds, and are numbered from 0 on.
--   both_inX, both_x_node, x_node_both     X is the nodes that are reached with their mates
--   x_nodes_distinct                       listed once each
--   part_least v                           the least node of v's part
--   part_least_both, part_least_min        it is one of v's tree, and the least
--   part_least_first                       and the first of its own part
--   part_number_same, part_number_root     parts have one number exactly if they have one root
--   part_number_find                       every number below one that is given is given
use mathlib.Core.Path.{◌≡◌, refl, sym, ap, subst, ◌∙◌}
use mathlib.Core.Logic.{inl, inr, ⊎_elim, ◌↔◌}
use mathlib.Core.Bool.{true, false}
use mathlib.Core.List.{List, [], ◌∷◌}
use Prim.Native.Nat.{ℕ, zero, suc, ◌≤◌, ◌<◌}
use native.Mathlib.Omega.{arith}
use lib.Dec.{ltb}
use lib.ListN.{length}
use borrow.Author.Tests.{eqb-true, eq-eqb, ltb-true, ltb-false}
use Rattle.counting.specs.Tests.{below}
use Rattle.counting.specs.Lists.{In, Within, Distinct}
use Rattle.skew.specs.Graph.{Graph, mate, nodes, nodes_along, is_reachable, inX, x_nodes, part_of, least_of, is_first, part_number}
use Rattle.skew.specs.Paths.{tail, head, Joins, WellFormed}
use Rattle.skew.specs.Search.{State, BaseArc, Invariant}
use Rattle.skew.specs.Steps.{Closed}
use Rattle.skew.specs.Forest.{BothReached, BudBase, entry_tail, root_of}
use Rattle.skew.specs.Parts.{PartClosed}
use Rattle.counting.proofs.Booleans.{and_two, and_both, by_test, same_or}
use Rattle.counting.proofs.Kept.{in_keep, keep_in, keep_distinct}
use Rattle.counting.proofs.Range.{up_in, distinct_up}
use Rattle.counting.proofs.Numbering.{number, number_lt, number_find}
use Rattle.skew.proofs.Paths.{nodes_cons}
use Rattle.skew.proofs.Exact.{reached_node, reachable_is}
use Rattle.skew.proofs.Parts.{adjacent_head, adjacent_tail, adjacent_elim, part_all, part_closed, part_has, least_in, least_le}
use Rattle.skew.proofs.Forest.{bud_both, bud_base, bud_arc, tail_both, root_up, root_stop, arc_root}

module _ (g : Graph) (wf : WellFormed g) (st : State) (I : Invariant g st) (K : Closed g st)
    (shut : st.reached (mate g.source) ≡ false) where
  abbrev Root : ℕ → ℕ
  Root v = root_of g st v

  -- THE NODES OF X
  is : (v : ℕ) → is_reachable g v ≡ st.reached v
  is v = reachable_is g wf st I K shut v

  pub both_inX : (v : ℕ) → BothReached st v → inX g v ≡ true
  both_inX v B = and_both (is_reachable g v) (is_reachable g (mate v)) (is v ∙ B.reached) (is (mate v) ∙ B.mate_reached)

  pub both_x_node : (v : ℕ) → BothReached st v → In v (x_nodes g)
  both_x_node v B =
      keep_in (inX g) (below (nodes g)) v
      (up_in 0 (nodes g) v (omega arith) (omega (arith, reached_node g wf st I v B.reached))) (both_inX v B)

  pub x_node_both : (v : ℕ) → In v (x_nodes g) → BothReached st v
  x_node_both v m =
      let r = and_two (is_reachable g v) (is_reachable g (mate v)) (in_keep (inX g) (below (nodes g)) v m).1 in
      record { reached = sym (is v) ∙ r.0; mate_reached = sym (is (mate v)) ∙ r.1 }

  pub x_nodes_distinct : Distinct (x_nodes g)
  x_nodes_distinct = keep_distinct (inX g) (below (nodes g)) (distinct_up 0 (nodes g))

  -- A PART lies in one tree
  part_within : (v u : ℕ) → BothReached st v → In u (part_of g v) → BothReached st u × (Root u ≡ Root v)
  part_within v u B m =
      part_all g (λ (z : ℕ). BothReached st z × (Root z ≡ Root v)) (length (x_nodes g)) (x_nodes g) (v ∷ [])
      (λ a b k q t.
      let A = x_node_both a k in
      let same = arc_root g st I shut wf.symmetric K in (
        A,
        adjacent_elim g (λ (y z : ℕ). BothReached st y → BothReached st z → Root y ≡ Root z) same (λ i h Y Z. sym (same i h Z Y)) a b t A q.0 ∙ q.1,
      ))
      (λ x. ⊎_elim (λ e. rw e (B, refl)) (λ b. absurd b)) u m

  -- and a list that holds with a node its neighbours in X holds with a node its tree
  module _ (P : List ℕ) (S : PartClosed g (x_nodes g) P) where
    across : (i : ℕ) → i < length g.arcs → BothReached st (tail g i) → BothReached st (head g i) → In (tail g i) P ↔ In (head g i) P
    across i h X Y = (
      λ m. S (head g i) (tail g i) (both_x_node (head g i) Y) m (adjacent_head g i h),
      λ m. S (tail g i) (head g i) (both_x_node (tail g i) X) m (adjacent_tail g i h),
    )

    along : (a w : ℕ) (p : List ℕ) → Joins g a w p → Within (BothReached st) (nodes_along g a p) → In a P ↔ In w P
    unfolding nodes_along
    along a w [] j B = (subst (λ (z : ℕ). In z P) j, subst (λ (z : ℕ). In z P) (sym j))
    along a w (i ∷ is) j B =
        let r = along (head g i) w is j.2 (λ x k. B x (inr k)) in
        let s = across i j.0 (rw j.1 (B a (inl refl))) (B (head g i) (inr (nodes_cons g (head g i) is))) in
        (λ m. r.0 (s.0 (rw j.1 m)), λ m. subst (λ (z : ℕ). In z P) j.1 (s.1 (r.1 m)))

    with_base : (u : ℕ) → BothReached st u → In (st.base u) P ↔ In u P
    with_base u B =
        let r = I.path u B.reached in
        along (st.base u) u r.0 r.1.joins (λ x k. bud_both g st I u x B (r.1.within x k))

    -- induction on the birth of the base
    with_root : (n u : ℕ) → BothReached st u → st.birth (st.base u) < n → In (Root u) P ↔ In u P
    with_root zero u B h = absurd (omega arith)
    with_root (suc n) u B h =
        by_test (st.reached (mate x))
        (λ t.
        let T = tail_both g st I shut b X t in
        let r = with_root n x T (omega (arith, a.base_earlier)) in
        let s = across (st.via b) a.is_arc T (rw a.head_is X.both) in
        subst (λ (z : ℕ). In z P ↔ In u P) (sym (root_up g st I shut b X t)) (
          λ m. c.0 (subst (λ (z : ℕ). In z P) a.head_is (s.0 (r.0 m))),
          λ m. r.1 (s.1 (rw a.head_is (c.1 m))),
        ))
        (λ t. subst (λ (z : ℕ). In z P ↔ In u P) (sym (root_stop g st I shut b t)) c)
      where
        b : ℕ
        b = st.base u

        X : BudBase st b
        X = bud_base g st I u B

        a : BaseArc g st b
        a = bud_arc g st I shut b X

        x : ℕ
        x = entry_tail g st b

        c : In b P ↔ In u P
        c = with_base u B

  part_whole : (v u : ℕ) → BothReached st v → BothReached st u → Root u ≡ Root v → In u (part_of g v)
  part_whole v u B U e =
      let S = part_closed g (x_nodes g) v (both_x_node v B) in
      (with_root (part_of g v) S (suc (st.birth (st.base u))) u U (omega arith)).0
      (rw e ((with_root (part_of g v) S (suc (st.birth (st.base v))) v B (omega arith)).1 (part_has g (x_nodes g) v)))

  -- THE LEAST NODE of a part, and its number
  abbrev pub part_least : ℕ → ℕ
  part_least v = least_of v (part_of g v)

  pub part_least_both : (v : ℕ) → BothReached st v → BothReached st (part_least v) × (Root (part_least v) ≡ Root v)
  part_least_both v B = ⊎_elim (λ e. rw e (B, refl)) (part_within v (part_least v) B) (least_in v (part_of g v))

  pub part_least_min : (v u : ℕ) → BothReached st v → BothReached st u → Root u ≡ Root v → part_least v ≤ u
  part_least_min v u B U e = least_le v (part_of g v) u (inr (part_whole v u B U e))

  part_least_same : (v w : ℕ) → BothReached st v → BothReached st w → Root v ≡ Root w → part_least v ≡ part_least w
  part_least_same v w X Y e =
      let a = part_least_both v X in
      let b = part_least_both w Y in
      omega (arith, part_least_min v (part_least w) X b.0 (b.1 ∙ sym e), part_least_min w (part_least v) Y a.0 (a.1 ∙ e))

  pub part_least_first : (v : ℕ) → BothReached st v → is_first g (part_least v) ≡ true
  part_least_first v B =
      let a = part_least_both v B in
      eq-eqb (part_least (part_least v)) (part_least v) (part_least_same (part_least v) v a.0 B a.1)

  -- NUMBERS
  abbrev numbered : ℕ → ℕ
  numbered u = number (x_nodes g) x_nodes_distinct (is_first g) u

  number_less : (v w : ℕ) → BothReached st v → part_least v < part_least w → part_number g v < part_number g w
  number_less v w X l =
      number_lt (x_nodes g) x_nodes_distinct (is_first g) (part_least v) (part_least w) l (both_x_node (part_least v) (part_least_both v X).0)
      (part_least_first v X)

  pub part_number_same : (v w : ℕ) → BothReached st v → BothReached st w → Root v ≡ Root w → part_number g v ≡ part_number g w
  part_number_same v w X Y e = ap numbered (part_least_same v w X Y e)

  pub part_number_root : (v w : ℕ) → BothReached st v → BothReached st w → part_number g v ≡ part_number g w → Root v ≡ Root w
  part_number_root v w X Y e =
      ⊎_elim (λ q. sym (part_least_both v X).1 ∙ ap Root q ∙ (part_least_both w Y).1)
      (λ n.
      by_test (ltb (part_least v) (part_least w)) (λ t. absurd (omega (arith, e, number_less v w X (ltb-true _ _ t))))
      (λ t. let l = ltb-false (part_least v) (part_least w) t in absurd (omega (arith, e, number_less w v Y (omega arith)))))
      (same_or (part_least v) (part_least w))

  pub part_number_find : (v k : ℕ) → BothReached st v → k ≤ part_number g v → (w : ℕ) × BothReached st w × (part_number g w ≡ k)
  part_number_find v k B h =
      ⊎_elim (λ q. (v, B, sym q))
      (λ n.
      let r = number_find (x_nodes g) x_nodes_distinct (is_first g) (part_least v) k (omega arith) in
      let u = r.0 in
      (u, x_node_both u r.1, ap numbered (eqb-true (part_least u) u r.2) ∙ r.3))
      (same_or k (part_number g v))
