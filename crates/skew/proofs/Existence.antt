-- Every well-formed graph has a closed state (EXISTS): from the start, steps are taken while some arc asks for one; each lowers the measure.
--   ClosedState g      a closed state with the invariant
--   closed_exists      there is one
use mathlib.Core.Path.{◌≡◌, refl, sym, ap, ◌∙◌}
use mathlib.Core.Logic.{◌⊎◌, inl, inr, ◌≢◌, ⊎_elim}
use mathlib.Core.Bool.{Bool, true, false, ◌&&◌, ◌||◌, not}
use Prim.Native.Nat.{ℕ, zero, suc, ◌+◌, ◌≤◌, ◌<◌}
use native.Mathlib.Omega.{arith}
use lib.Dec.{leb, eqb}
use lib.ListN.{length}
use borrow.Author.Tests.{eqb-true, eq-eqb, ne_eqb, leb-true, leb-false}
use Rattle.counting.specs.Tests.{pick}
use Rattle.skew.specs.Graph.{Graph, mate}
use Rattle.skew.specs.Paths.{tail, head, SkewSymmetric, WellFormed}
use Rattle.skew.specs.Search.{State, parent_base, ReachedEnds, Invariant}
use Rattle.skew.specs.Steps.{TreeStep, reached_after, BudStep, Settled, Touched, Closed}
use Rattle.skew.specs.Measure.{total}
use Rattle.skew.specs.Ascent.{Unsettled, InAbsorbed, AddsBase}
use Rattle.counting.proofs.Booleans.{or_right, or_cases, pick_true, by_test, true_false, same_or}
use Rattle.counting.proofs.Range.{some_or_each}
use Rattle.skew.proofs.TreeStep.{tree_step_keeps}
use Rattle.skew.proofs.BudStep.{bud_step_keeps}
use Rattle.skew.proofs.Ascent.{Climb, climb_start, climb_mirror, climb_end, climb_arc, climb_absorb, climb_same}
use Rattle.skew.proofs.Settled.{settled_or}
use Rattle.skew.proofs.Measure.{tree_step_less, bud_step_less}
use Rattle.skew.proofs.Start.{start_keeps, start_state, start_state_started}

pub record ClosedState (g : Graph) : Type 0 where
  pub st : State
  pub invariant : Invariant g st
  pub closed : Closed g st

-- THE STATES after a step
tree_state : Graph → State → ℕ → State
tree_state g st e =
    record {
      reached = λ (u : ℕ). eqb u (head g e) || st.reached u;
      base = λ (u : ℕ). pick (eqb u (head g e) || eqb u (mate (head g e))) (head g e) (st.base u);
      via = λ (u : ℕ). pick (eqb u (head g e)) e (st.via u);
      birth = λ (u : ℕ). pick (eqb u (head g e)) st.clock (st.birth u);
      clock = suc st.clock;
    }

tree_state_lem : (g : Graph) (st : State) (e : ℕ) → TreeStep g st e (tree_state g st e)
unfolding tree_state
tree_state_lem g st e =
    let w = head g e in
    let same = eq-eqb w w refl in
    record {
      reached_head = rw same;
      reached_other = λ u n. rw (ne_eqb u w n);
      base_head = rw same;
      base_head_mate = pick_true w (st.base (mate w)) (or_right (eqb (mate w) w) (eqb (mate w) (mate w)) (eq-eqb (mate w) (mate w) refl));
      base_other = λ u n. rw (ne_eqb u w n.0, ne_eqb u (mate w) n.1);
      via_head = rw same;
      via_other = λ u n. rw (ne_eqb u w n);
      birth_head = rw same;
      birth_other = λ u n. rw (ne_eqb u w n);
      clock_next = refl;
    }

bud_state : State → (ℕ → Bool) → ℕ → (ℕ → ℕ) → State
bud_state st C b via =
    record {
      reached = reached_after st C b;
      base = λ (u : ℕ). pick (C (st.base u)) b (st.base u);
      via = via;
      birth = λ (u : ℕ). pick (st.reached u) (st.birth u) st.clock;
      clock = suc st.clock;
    }

bud_state_lem : (st : State) (C : ℕ → Bool) (b : ℕ) (via : ℕ → ℕ) → BudStep st C b via (bud_state st C b via)
unfolding bud_state
bud_state_lem st C b via =
    record {
      reached_in = λ u h. or_right (st.reached u) (C (st.base u) || eqb u (mate b)) (rw h);
      reached_mate =
          or_right (st.reached (mate b)) (C (st.base (mate b)) || eqb (mate b) (mate b))
          (or_right (C (st.base (mate b))) (eqb (mate b) (mate b)) (eq-eqb (mate b) (mate b) refl));
      reached_still = λ u h. rw h;
      reached_back = λ u h.
          ⊎_elim (λ a. inl a)
          (λ a. inr (⊎_elim (λ t. inl t) (λ t. inr (eqb-true u (mate b) t)) (or_cases (C (st.base u)) (eqb u (mate b)) a)))
          (or_cases (st.reached u) (C (st.base u) || eqb u (mate b)) h);
      base_in = λ u h. rw h;
      base_out = λ u h. rw h;
      via_is = λ u. refl;
      birth_old = λ u l. rw l;
      birth_new = λ u l m. rw l;
      clock_next = refl;
    }

-- ONE BASE MORE is absorbed, its mate labelled where it is new
module _ (st : State) (C : ℕ → Bool) (via : ℕ → ℕ) (c e : ℕ) where
  abbrev with_base : ℕ → Bool
  with_base k = eqb k c || C k

  abbrev with_via : ℕ → ℕ
  with_via u = pick (eqb u (mate c) && not (st.reached u)) e (via u)

  with_via_old : st.base (mate c) ≡ c → C c ≡ false → (u : ℕ) → (st.reached u ≡ true) ⊎ InAbsorbed st C u → with_via u ≡ via u
  with_via_old s o u (inl l) = by_test (eqb u (mate c)) (λ t. rw (t, l)) (λ t. rw t)
  with_via_old s o u (inr h) =
      rw (ne_eqb u (mate c) (λ q. let k : st.base u ≡ c = ap st.base q ∙ s in true_false (rw k at h) o))

  adds_base : st.base (mate c) ≡ c → C c ≡ false → AddsBase st C via c e with_base with_via
  adds_base s o =
      record {
        here = rw (eq-eqb c c refl);
        old = λ k h. or_right (eqb k c) (C k) h;
        back = λ k h. ⊎_elim (λ q. inl (eqb-true k c q)) (λ q. inr q) (or_cases (eqb k c) (C k) h);
        via_new = λ f. rw (eq-eqb (mate c) (mate c) refl, f);
        via_old = with_via_old s o;
      }

module _ (g : Graph) (wf : WellFormed g) (st : State) (I : Invariant g st) where
  abbrev d : SkewSymmetric g
  d = wf.symmetric

  abbrev Next : Type 0
  Next = (new : State) × Invariant g new × (total g new < total g st)

  -- THE TREE STEP
  tree_next : (i : ℕ) → i < length g.arcs → st.reached (tail g i) ≡ true → st.reached (head g i) ≡ false →
      st.reached (mate (head g i)) ≡ false → Next
  tree_next i h l f m =
      let new = tree_state g st i in
      let N = tree_state_lem g st i in
      (new, tree_step_keeps g st I i h l f m new N, tree_step_less g wf st I i h l f m new N)

  -- THE BUD STEP: ascent until both ends stand in one fragment
  ascend : (n : ℕ) (C : ℕ → Bool) (via : ℕ → ℕ) (e p q : ℕ) → Climb g st C via e p q → st.birth p + st.birth q < n → Next
  ascend zero C via e p q A h = absurd (omega arith)
  ascend (suc n) C via e p q A h = go (same_or p q) (ascend n)
    where
      Later : Type 0
      Later = (C : ℕ → Bool) (via : ℕ → ℕ) (e p q : ℕ) → Climb g st C via e p q → st.birth p + st.birth q < n → Next

      adds : {e p q : ℕ} → Climb g st C via e p q → AddsBase st C via q e (with_base st C via q e) (with_via st C via q e)
      adds {e} {q = q} A = let o = climb_end d I A in adds_base st C via q e o.mate_in o.out

      -- the end at q has the later base
      move : (e p q : ℕ) → Climb g st C via e p q → p ≢ q → st.birth p ≤ st.birth q → st.birth p + st.birth q < suc n → Later → Next
      move e p q A ne le h ih =
          ih (with_base st C via q e) (with_via st C via q e) e p (parent_base g st q) (climb_absorb d I A ne le (adds A))
          (omega (arith, (climb_arc d I A ne le).base_earlier))

      go : (p ≡ q) ⊎ (p ≢ q) → Later → Next
      go (inl same) ih =
          let via' = with_via st C via q e in
          let K = climb_same d I A same (adds A) in
          let new = bud_state st C q via' in
          let N = bud_state_lem st C q via' in
          (new, bud_step_keeps g st I C q via' K.0 new N, bud_step_less g wf st I C q via' K.0 new N K.1)
      go (inr ne) ih =
          by_test (leb (st.birth p) (st.birth q)) (λ t. move e p q A ne (leb-true _ _ t) h ih)
          (λ t.
          let lt = leb-false (st.birth p) (st.birth q) t in
          move (mate e) q p (climb_mirror d I A) (λ r. ne (sym r)) (omega arith) (omega arith) ih)

  bud_next : (i : ℕ) → i < length g.arcs → ReachedEnds g st i → Unsettled g st i (tail g i) (mate (head g i)) → Next
  bud_next i h R U =
      let p = st.base (tail g i) in
      let q = st.base (mate (head g i)) in
      ascend (suc (st.birth p + st.birth q)) (λ (k : ℕ). false) st.via i p q (climb_start h R U (λ k r. true_false r refl) refl refl) (omega arith)

  -- AN ARC asks for a step, or for none
  abbrev Quiet : ℕ → Type 0
  Quiet i = st.reached (tail g i) ≡ true → Touched g st i × (st.reached (mate (head g i)) ≡ true → Settled g st i)

  next_or_quiet : (i : ℕ) → i < length g.arcs → Next ⊎ Quiet i
  next_or_quiet i h =
      by_test (st.reached (tail g i))
      (λ l. by_test (st.reached (mate (head g i)))
      (λ m.
      let R : ReachedEnds g st i = record { tail_reached = l; mate_reached = m } in
      ⊎_elim (λ s. inr (λ k. (inr m, λ n. s))) (λ u. inl (bud_next i h R u)) (settled_or g d st I i R))
      (λ m. by_test (st.reached (head g i)) (λ t. inr (λ k. (inl t, λ n. true_false n m))) (λ t. inl (tree_next i h l t m))))
      (λ l. inr (λ k. true_false k l))

run : (g : Graph) (wf : WellFormed g) (n : ℕ) (st : State) → Invariant g st → total g st < n → ClosedState g
run g wf zero st I h = absurd (omega arith)
run g wf (suc n) st I h =
    ⊎_elim (λ r. let s = r.2 in run g wf n s.0 s.1 (omega (arith, s.2)))
    (λ q.
    record {
      st = st;
      invariant = I;
      closed = record { touched = λ i k l. (q i k l).0; settled = λ i k l m. (q i k l).1 m };
    })
    (some_or_each (length g.arcs) (next_or_quiet g wf st I))

pub closed_exists : (g : Graph) → WellFormed g → ClosedState g
closed_exists g wf =
    let st = start_state g in
    run g wf (suc (total g st)) st (start_keeps g st (start_state_started g)) (omega arith)
