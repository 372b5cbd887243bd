-- Without a path the canonical classes are a barrier (BARRIER; document 000, lemma 2.1 and theorem 2.2, the second half).
--   canonical_barrier      by a closed state that does not reach the source's mate
--   no_path_barrier        for every well-formed graph without a path
use mathlib.Core.Path.{◌≡◌, sym, ap, subst, ◌∙◌}
use mathlib.Core.Logic.{⊎_elim}
use mathlib.Core.Bool.{Bool, true, false}
use mathlib.Core.List.{List}
use Prim.Native.Nat.{ℕ, ◌+◌, ◌-◌, ◌≤◌, ◌<◌}
use native.Mathlib.Omega.{arith}
use lib.ListN.{length}
use Rattle.skew.specs.Graph.{Graph, mate, nodes, arc_at, is_reachable, has_path, class_at, largest_of, mate_class, entries_into, is_barrier, part_number, class_of, canonical}
use Rattle.skew.specs.Paths.{tail, head, WellFormed}
use Rattle.skew.specs.Search.{State, IsBase, BaseArc, Invariant}
use Rattle.skew.specs.Steps.{SettledKind, within, enters, leaves, Closed}
use Rattle.skew.specs.Forest.{BothReached, root, root_of, IsRoot}
use Rattle.skew.specs.Barrier.{classes_fit, is_entry, EntryArc, NodeClass, in_X, in_A, in_A', in_M}
use Rattle.counting.proofs.Booleans.{pick_true, by_test, true_false}
use Rattle.skew.proofs.Mates.{mate_mate, mate_below}
use Rattle.skew.proofs.Paths.{mate_arc, tail_node}
use Rattle.skew.proofs.Settled.{settled_kind}
use Rattle.skew.proofs.Existence.{closed_exists}
use Rattle.skew.proofs.Exact.{reached_reachable, reachable_is}
use Rattle.skew.proofs.Classes.{fit_X_X, fit_X_A, fit_X_A', fit_A_X, sole_entry, largest_is, barrier_test, X_mate_class, entry_test, test_entry, canonical_class, canonical_length, node_class}
use Rattle.skew.proofs.Forest.{both_mate, bud_arc, root_stop, root_is, arc_root}
use Rattle.skew.proofs.Canonical.{both_inX, part_number_same, part_number_root, part_number_find}

module _ (g : Graph) (wf : WellFormed g) (st : State) (I : Invariant g st) (K : Closed g st)
    (shut : st.reached (mate g.source) ≡ false) where
  abbrev cs : List ℕ
  cs = canonical g

  reached_is : (v : ℕ) (b : Bool) → is_reachable g v ≡ b → st.reached v ≡ b
  reached_is v b e = sym (reachable_is g wf st I K shut v) ∙ e

  both : (v : ℕ) → is_reachable g v ≡ true → is_reachable g (mate v) ≡ true → BothReached st v
  both v s t = record { reached = reached_is v true s; mate_reached = reached_is (mate v) true t }

  -- CLASSES of nodes
  class_of_lem : (v : ℕ) → BothReached st v → class_of g v ≡ 3 + part_number g v
  class_of_lem v B = pick_true (3 + part_number g v) _ (both_inX g wf st I K shut v B)

  class_one : (v : ℕ) → class_of g v ≡ 1 → (st.reached v ≡ true) × (st.reached (mate v) ≡ false)
  class_one v q = go (node_class g v)
    where
      go : NodeClass g v → (st.reached v ≡ true) × (st.reached (mate v) ≡ false)
      go (in_X s t e) = absurd (omega arith)
      go (in_A s t e) = (reached_is v true s, reached_is (mate v) false t)
      go (in_A' s t e) = absurd (omega arith)
      go (in_M s t e) = absurd (omega arith)

  one_class : (v : ℕ) → st.reached v ≡ true → st.reached (mate v) ≡ false → class_of g v ≡ 1
  one_class v l m = go (node_class g v)
    where
      go : NodeClass g v → class_of g v ≡ 1
      go (in_X s t e) = true_false (reached_is (mate v) true t) m
      go (in_A s t e) = e
      go (in_A' s t e) = true_false l (reached_is v false s)
      go (in_M s t e) = true_false l (reached_is v false s)

  class_three : (v : ℕ) → 3 ≤ class_of g v → BothReached st v
  class_three v q = go (node_class g v)
    where
      go : NodeClass g v → BothReached st v
      go (in_X s t e) = both v s t
      go (in_A s t e) = absurd (omega arith)
      go (in_A' s t e) = absurd (omega arith)
      go (in_M s t e) = absurd (omega arith)

  mate_class_lem : (v : ℕ) → class_of g (mate v) ≡ mate_class (class_of g v)
  mate_class_lem v = go (node_class g v)
    where
      back : (b : Bool) → is_reachable g v ≡ b → is_reachable g (mate (mate v)) ≡ b
      back b e = ap (λ (z : ℕ). is_reachable g z) (mate_mate v) ∙ e

      go : NodeClass g v → class_of g (mate v) ≡ mate_class (class_of g v)
      go (in_X s t e) =
          let B = both v s t in
          let M = both_mate g st I v B in
          let n : part_number g (mate v) ≡ part_number g v = part_number_same g wf st I K shut (mate v) v M B (ap (root g st) (I.base_mate v)) in
          rw (e, X_mate_class (3 + part_number g v) (omega arith), ← n) (class_of_lem (mate v) M)
      go (in_A s t e) = rw (e, t, back true s)
      go (in_A' s t e) = rw (e, t, back false s)
      go (in_M s t e) = rw (e, t, back false s)

  -- ARCS: one from A to a node whose mate is reached is a base arc
  from_A : (i : ℕ) → i < length g.arcs → st.reached (tail g i) ≡ true → st.reached (mate (tail g i)) ≡ false →
      st.reached (mate (head g i)) ≡ true → IsBase st (head g i) × (i ≡ st.via (head g i))
  from_A i h l n m =
      go (settled_kind g wf.symmetric st I i h (record { tail_reached = l; mate_reached = m; settled = K.settled i h l m }))
    where
      go : SettledKind g st i → IsBase st (head g i) × (i ≡ st.via (head g i))
      go (within q k t) = true_false t n
      go (enters r q) = (r, q)
      go (leaves r q) = true_false r.reached n

  arc_fits_lem : (i : ℕ) → i < length g.arcs → classes_fit (class_of g (tail g i)) (class_of g (head g i)) ≡ true
  arc_fits_lem i h = go (node_class g x) (node_class g y)
    where
      x : ℕ
      x = tail g i

      y : ℕ
      y = head g i

      -- no arc from a reached node to M, nor from M to X
      untouched : is_reachable g x ≡ true → is_reachable g y ≡ false → is_reachable g (mate y) ≡ false → ⊥
      untouched s k n =
          ⊎_elim (λ l. true_false l (reached_is y false k)) (λ l. true_false l (reached_is (mate y) false n)) (K.touched i h (reached_is x true s))

      from_M : is_reachable g x ≡ false → is_reachable g (mate x) ≡ false → is_reachable g (mate y) ≡ true → ⊥
      from_M s t n =
          let a = mate_arc g wf.symmetric i h in
          ⊎_elim (λ k. true_false (rw a.2 at k) (reached_is (mate x) false t))
          (λ k. true_false (rw (a.2, mate_mate x) at k) (reached_is x false s))
          (K.touched (mate i) a.0 (rw a.1 (reached_is (mate y) true n)))

      go : NodeClass g x → NodeClass g y → classes_fit (class_of g x) (class_of g y) ≡ true
      go (in_X s t e) (in_X k n f) =
          let X = both x s t in
          let Y = both y k n in
          let p = part_number_same g wf st I K shut x y X Y (arc_root g st I shut wf.symmetric K i h X Y) in
          rw (e, f, p) (fit_X_X (part_number g y))
      go (in_X s t e) (in_A k n f) = rw (e, f) (fit_X_A (part_number g x))
      go (in_X s t e) (in_A' k n f) = rw (e, f) (fit_X_A' (part_number g x))
      go (in_X s t e) (in_M k n f) = absurd (untouched s k n)
      go (in_A s t e) (in_X k n f) = rw (e, f) (fit_A_X (part_number g y))
      go (in_A s t e) (in_A k n f) = rw (e, f)
      go (in_A s t e) (in_A' k n f) =
          true_false (from_A i h (reached_is x true s) (reached_is (mate x) false t) (reached_is (mate y) true n)).0.reached (reached_is y false k)
      go (in_A s t e) (in_M k n f) = absurd (untouched s k n)
      go (in_A' s t e) c = rw e
      go (in_M s t e) (in_X k n f) = absurd (from_M s t n)
      go (in_M s t e) (in_A k n f) = rw (e, f)
      go (in_M s t e) (in_A' k n f) = rw (e, f)
      go (in_M s t e) (in_M k n f) = rw (e, f)

  -- ENTRIES: the base arc of a tree's root is the one entry into its class
  at : (v : ℕ) → v < nodes g → class_at cs v ≡ class_of g v
  at = canonical_class g

  at_tail : (i : ℕ) → i < length g.arcs → class_at cs (tail g i) ≡ class_of g (tail g i)
  at_tail i h = at (tail g i) (tail_node g wf i h)

  at_head : (i : ℕ) → i < length g.arcs → class_at cs (head g i) ≡ class_of g (head g i)
  at_head i h = at (head g i) (wf.head_node i h)

  module _ (w : ℕ) (W : BothReached st w) where
    r : ℕ
    r = root_of g st w

    R : IsRoot g st r
    unfolding r
    R = root_is g st I shut w W

    arc : BaseArc g st r
    arc = bud_arc g st I shut r R.base

    root_own : root_of g st r ≡ r
    root_own = ap (root g st) R.base.self ∙ root_stop g st I shut r R.outside

    root_class : class_of g r ≡ 3 + part_number g w
    unfolding r
    root_class =
        class_of_lem r R.base.both ∙ ap (λ (z : ℕ). 3 + z) (part_number_same g wf st I K shut r w R.base.both W root_own)

    root_entry : EntryArc g cs (st.via r) (3 + part_number g w)
    root_entry =
        let e = st.via r in
        record {
          is_arc = arc.is_arc;
          is_X = omega arith;
          from_A = at_tail e arc.is_arc ∙ one_class (tail g e) arc.tail_reached R.outside;
          into_X = at_head e arc.is_arc ∙ ap (class_of g) arc.head_is ∙ root_class;
        }

    only_entry : (j : ℕ) → j < length g.arcs → is_entry cs (3 + part_number g w) (arc_at g j) ≡ true → j ≡ st.via r
    unfolding r
    only_entry j h e =
        let E = test_entry g cs j (3 + part_number g w) h (omega arith) e in
        let o = class_one (tail g j) (sym (at_tail j h) ∙ E.from_A) in
        let q : class_of g (head g j) ≡ 3 + part_number g w = sym (at_head j h) ∙ E.into_X in
        let Y = class_three (head g j) (omega (arith, q)) in
        let n : part_number g (head g j) ≡ part_number g w = omega (arith, q, class_of_lem (head g j) Y) in
        let m = from_A j h o.0 o.1 Y.mate_reached in
        let y = head g j in
        let own : root_of g st y ≡ y =
        ap (root g st) m.0.self ∙
        root_stop g st I shut y (subst (λ (z : ℕ). st.reached (mate (tail g z)) ≡ false) m.1 o.1) in
        m.1 ∙ ap st.via (sym own ∙ part_number_root g wf st I K shut y w Y W n)

  one_entry : (c : ℕ) → 3 ≤ c → c ≤ largest_of cs → entries_into cs c g.arcs ≡ 1
  one_entry c low high =
      let l = largest_is cs (omega arith) in
      let i = l.0 in
      let q : class_of g i ≡ largest_of cs = sym (at i (omega (arith, l.1, canonical_length g))) ∙ l.2 in
      let B = class_three i (omega arith) in
      let f = part_number_find g wf st I K shut i (c - 3) B (omega (arith, class_of_lem i B)) in
      of_part f.0 f.1 (omega (arith, f.2))
    where
      of_part : (w : ℕ) → BothReached st w → 3 + part_number g w ≡ c → entries_into cs c g.arcs ≡ 1
      of_part w B q =
          subst (λ (z : ℕ). entries_into cs z g.arcs ≡ 1) q
          (sole_entry cs (3 + part_number g w) g.arcs (st.via (r w B)) (arc w B).is_arc
          (entry_test g cs (st.via (r w B)) (3 + part_number g w) (root_entry w B)) (only_entry w B))

  pub canonical_barrier : is_barrier g (canonical g) ≡ true
  canonical_barrier =
      barrier_test g cs (canonical_length g)
      (record {
        source_class = at g.source wf.source_node ∙ one_class g.source I.source_reached shut;
        mate_class_lem = λ v h.
            at (mate v) (mate_below v (nodes g) (omega arith) h) ∙ mate_class_lem v ∙ ap (λ (z : ℕ). mate_class z) (sym (at v h));
        arc_fits_lem = λ i h. rw (at_tail i h, at_head i h) (arc_fits_lem i h);
        one_entry = one_entry;
      })

pub no_path_barrier : (g : Graph) → WellFormed g → has_path g ≡ false → is_barrier g (canonical g) ≡ true
no_path_barrier g wf n =
    let F = closed_exists g wf in
    let s = mate g.source in
    canonical_barrier g wf F.st F.invariant F.closed
    (by_test (F.st.reached s) (λ t. true_false (reached_reachable g wf F.st F.invariant s t) n) (λ t. t))
