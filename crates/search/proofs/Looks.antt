-- A look at one arc of a reached node: whether it is settled, and what the tables hold after the step that it asks for.
--   settled_tells, unsettled_tells          what `is_settled` answers: the arc is settled, or asks for a bud
--   births_clear                            the marks are clear
--   head_within                             the head stands within the tables
--   looked_old                              the head was reached already
--   new_room, looked_new                    the head is new: there is room in the queue, and it was reached
--   looked_settled                          the head's mate is reached and the arc is settled
--   bridging, bud_queue, looked_bud         or it asks for a bud: what the step and the queue are given, and the arc was settled
use mathlib.Core.Path.{◌≡◌, sym, ap, subst, ◌∙◌}
use mathlib.Core.Logic.{inl, inr, ◌≢◌, ⊎_elim}
use mathlib.Core.Bool.{Bool, true, false}
use mathlib.Core.List.{List}
use Prim.Native.Nat.{ℕ, ◌+◌, ◌/◌, ◌<◌}
use native.Mathlib.Omega.{arith}
use lib.Dec.{eqb}
use lib.ListN.{length, get_or}
use borrow.Author.Tests.{eqb-true, eqb-false, lt-ltb, le-ltb}
use Rattle.counting.proofs.Booleans.{or_cases, or_false_left, or_false_right, by_test, true_false}
use Rattle.skew.specs.Graph.{Graph, mate}
use Rattle.skew.specs.Paths.{tail, head}
use Rattle.skew.specs.Search.{State, Invariant}
use Rattle.skew.specs.Steps.{Settled, SettledArc, Touched}
use Rattle.skew.specs.Ascent.{Unsettled}
use Rattle.skew.proofs.Settled.{tree_step_reached, tree_step_settled}
use Rattle.search.specs.Tables.{Labels, is_reached, Queue, Tables, tables}
use Rattle.search.specs.State.{state_in, state_of, StateHeld, Clear}
use Rattle.search.specs.Steps.{Leaving, NewHead, Joining, Bridging, NodeWithin, head_reached, TreeStepped, BudStepped}
use Rattle.search.specs.Queue.{Queued, queued_below, pushed, Enqueued, is_settled, Looking, ArcLooked}
use Rattle.search.proofs.States.{reached_is_node, ArcBounds, arc_bounds, tail_base, head_base}
use Rattle.search.proofs.TreeSteps.{tree_stepped}
use Rattle.search.proofs.Queues.{queued_same, enqueued_same, enqueued_none, enqueued_add, queue_room}

-- IS THE ARC SETTLED?
module _ {g : Graph} {L : Labels} {k i : ℕ} (J : Joining g L k i) where
  abbrev st : State
  st = state_in L k

  abbrev A : Leaving g L k i
  A = J.leaving

  abbrev I : Invariant g st
  I = A.held.state.invariant

  -- the bases of tail and head, and their arcs
  abbrev p : ℕ
  p = get_or L.bases (tail g i / 2) 0

  abbrev q : ℕ
  q = get_or L.bases (head g i / 2) 0

  abbrev a : ℕ
  a = get_or L.vias p 0

  abbrev b : ℕ
  b = get_or L.vias q 0

  base_p : st.base (tail g i) ≡ p
  base_p = tail_base A.held A.is_arc

  base_q : st.base (head g i) ≡ q
  base_q = head_base A.held A.is_arc

  base_z : st.base (mate (head g i)) ≡ q
  base_z = I.base_mate (head g i) ∙ base_q

  pub settled_tells : is_settled g L i ≡ true → Settled g st i
  settled_tells e =
      by_test (eqb p q) (λ t. inl (base_p ∙ eqb-true p q t ∙ sym base_q, rw t at e))
      (λ t.
      ⊎_elim (λ h. inr (inl (sym (eqb-true b i h) ∙ ap st.via (sym base_q)))) (λ h. inr (inr (sym (eqb-true a (mate i) h) ∙ ap st.via (sym base_p))))
      (or_cases (eqb b i) (eqb a (mate i)) (rw t at e)))

  -- the head is new in the tail's fragment, or the arc leads to another one and is the base arc of neither way
  inside : p ≡ q → st.reached (head g i) ≡ false → Unsettled g st i (tail g i) (mate (head g i))
  inside e new =
      record {
        not_base_arcs = λ ne. absurd (ne (base_p ∙ e ∙ sym base_z));
        mate_new = λ z.
            ⊎_elim (λ t. true_false t new) (λ t. rw (← t.1) new)
            (I.whole (st.base (tail g i)) (head g i) (I.base_base (tail g i) A.tail_reached) (base_q ∙ sym e ∙ sym base_p));
      }

  between : p ≢ q → b ≢ i → a ≢ mate i → Unsettled g st i (tail g i) (mate (head g i))
  between ne nb na =
      record {
        not_base_arcs = λ r. (λ z. nb (sym (z ∙ ap st.via base_z)), λ z. na (sym (z ∙ ap st.via base_p)));
        mate_new = λ z. absurd (ne (sym base_p ∙ z ∙ base_z));
      }

  pub unsettled_tells : is_settled g L i ≡ false → Bridging g L k i
  unsettled_tells e =
      record {
        joining = J;
        unsettled =
            by_test (eqb p q) (λ t. inside (eqb-true p q t) (rw t at e))
            (λ t.
            between (eqb-false p q t) (eqb-false b i (or_false_left (eqb b i) (eqb a (mate i)) (rw t at e)))
            (eqb-false a (mate i) (or_false_right (eqb b i) (eqb a (mate i)) (rw t at e))));
      }

-- THE LOOK
module _ {g : Graph} {T : Tables} {i : ℕ} (A : Looking g T i) where
  H : StateHeld g T.labels T.clock
  H = A.leaving.held.state

  B : ArcBounds g T.labels i
  B = arc_bounds A.leaving.held A.leaving.is_arc

  pub births_clear : Clear false (length T.labels.births) T.marks
  births_clear = rw H.births_long A.clear

  unchanged : Touched g (state_of T) i → ((state_of T).reached (mate (head g i)) ≡ true → SettledArc g (state_of T) i) →
      ArcLooked g T i T
  unchanged t s =
      record {
        state = H;
        clear = A.clear;
        later = record { reached_still = λ u l. l; settled_still = λ j h e. e };
        touched = t;
        settled = s;
        enqueued = enqueued_none A.queued;
      }

  module _ {y z : ℕ} (ey : y ≡ head g i) (ez : z ≡ mate y) where
    in_queue : y < length T.queue.nodes
    in_queue = rw ey (omega (arith, A.queue_long, B.head_low))

    head_y : head g i ≡ y
    head_y = sym ey

    mate_z : mate (head g i) ≡ z
    mate_z = ap mate head_y ∙ sym ez

    pub head_within : NodeWithin T.labels y
    head_within =
        let low = B.head_low in
        rw ey (record { in_births = omega (arith, B.births_long); in_vias = omega (arith, B.vias_long); in_bases = omega (arith, B.bases_long) })

    -- the head's mate is new
    module _ (nz : is_reached T.labels z ≡ false) where
      mate_new : (state_of T).reached (mate (head g i)) ≡ false
      mate_new = rw mate_z nz

      pub looked_old : is_reached T.labels y ≡ true → ArcLooked g T i T
      looked_old ry = unchanged (inl (rw head_y ry)) (λ t. true_false t mate_new)

      module _ (ny : is_reached T.labels y ≡ false) where
        new_head : NewHead g T.labels T.clock i
        new_head = record { leaving = A.leaving; head_new = rw head_y ny; mate_new = mate_new }

        pub new_room : T.queue.count < length T.queue.nodes
        new_room = queue_room A.queued ny in_queue

        stepped : TreeStepped g T.labels T.clock i (head_reached T.labels T.clock i y)
        stepped = subst (λ (w : ℕ). TreeStepped g T.labels T.clock i (head_reached T.labels T.clock i w)) head_y (tree_stepped new_head)

        pub looked_new : {L' : Labels} {q' : Queue} → L' ≡ head_reached T.labels T.clock i y → q' ≡ pushed T.queue y →
            ArcLooked g T i (tables L' T.marks q' (T.clock + 1))
        looked_new e eq =
            let d = A.leaving.held.table.well_formed.symmetric in
            let new = state_in (head_reached T.labels T.clock i y) (T.clock + 1) in
            rw (e, eq)
            (record {
              state = stepped.state;
              clear = A.clear;
              later =
                  record {
                    reached_still = tree_step_reached g d (state_of T) H.invariant i new new_head.head_new mate_new stepped.step;
                    settled_still = λ j l. tree_step_settled g d (state_of T) H.invariant i new new_head.head_new mate_new stepped.step j;
                  };
              touched = inl stepped.step.reached_head;
              settled = λ t. true_false t mate_new;
              enqueued =
                  enqueued_add (enqueued_none A.queued) ny in_queue (rw head_y at stepped.step.reached_head)
                  (λ u ne. stepped.step.reached_other u (λ e. ne (e ∙ head_y)));
            })

    -- the head's mate is reached
    module _ (rz : is_reached T.labels z ≡ true) where
      joining : Joining g T.labels T.clock i
      joining = record { leaving = A.leaving; mate_reached = rw mate_z rz }

      pub looked_settled : is_settled g T.labels i ≡ true → ArcLooked g T i T
      looked_settled e =
          unchanged (inr joining.mate_reached)
          (λ t. record { tail_reached = A.leaving.tail_reached; mate_reached = t; settled = settled_tells joining e })

      pub bridging : is_settled g T.labels i ≡ false → Bridging g T.labels T.clock i
      bridging = unsettled_tells joining

  -- a bud was formed
  module _ {L' : Labels} (N : BudStepped g T.labels T.clock i L') where
    -- reached before the step, as the queue tells it
    before : (u : ℕ) → queued_below L'.births T.clock 0 u ≡ (state_of T).reached u
    before u = rw (le-ltb u 0 (omega arith)) (N.born u)

    pub bud_queue : (length T.queue.nodes ≡ length L'.births) × Queued (queued_below L'.births T.clock 0) T.queue
    bud_queue = (omega (arith, A.queue_long, N.state.births_long), queued_same before A.queued)

    after : (u : ℕ) → (state_in L' (T.clock + 1)).reached u ≡ queued_below L'.births T.clock (length L'.births) u
    after u =
        by_test (eqb (get_or L'.births u 0) T.clock)
        (λ t.
        let r : (state_in L' (T.clock + 1)).reached u ≡ true = rw (eqb-true (get_or L'.births u 0) T.clock t) (lt-ltb 0 T.clock H.clock_late) in
        rw (t, r) (sym (lt-ltb u (length L'.births) (omega (arith, N.state.births_long, reached_is_node N.state u r)))))
        (λ t. rw t)

    pub looked_bud : {marks' : List Bool} {q' : Queue} → Clear false (length T.labels.births) marks' →
        Enqueued (queued_below L'.births T.clock (length L'.births)) T.queue q' →
        ArcLooked g T i (tables L' marks' q' (T.clock + 1))
    looked_bud C E =
        record {
          state = N.state;
          clear = rw H.births_long at C;
          later = N.later;
          touched = inr N.settled.mate_reached;
          settled = λ t. N.settled;
          enqueued = enqueued_same after E;
        }
