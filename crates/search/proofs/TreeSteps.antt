-- The tree step on the tables.
--   tree_stepped      the head's birth, label and base stored: a tree step
use mathlib.Core.Path.{◌≡◌, ◌∙◌}
use mathlib.Core.Logic.{◌≢◌, ⊎_elim}
use Prim.Native.Nat.{ℕ, ◌+◌, ◌/◌, ◌<◌}
use native.Mathlib.Numerals.{add-one}
use native.Mathlib.Omega.{arith}
use lib.ListN.{get_or, set, length-set}
use lib.Seq.{get_or-set_same, get_or-set_other}
use borrow.Author.Tests.{lt-ltb}
use Rattle.counting.proofs.Booleans.{same_or}
use Rattle.skew.specs.Graph.{Graph, mate, nodes}
use Rattle.skew.specs.Paths.{head}
use Rattle.skew.specs.Steps.{TreeStep}
use Rattle.skew.proofs.Mates.{mate_half, half_pair}
use Rattle.skew.proofs.TreeStep.{tree_step_keeps}
use Rattle.skew.proofs.Measure.{tree_step_less}
use Rattle.search.specs.Tables.{Labels, labels}
use Rattle.search.specs.State.{state_in, StateHeld, SearchHeld}
use Rattle.search.specs.Steps.{NewHead, head_reached, TreeStepped}

module _ {g : Graph} {L : Labels} {k i : ℕ} (N : NewHead g L k i) where
  abbrev S : SearchHeld g L k
  S = N.leaving.held

  abbrev H : StateHeld g L k
  H = S.state

  abbrev w : ℕ
  w = head g i

  abbrev after : (head : ℕ) → Labels
  after w = labels (set L.births w k) (set L.vias w i) (set L.bases (w / 2) w)

  head_low : w < nodes g
  head_low = S.table.well_formed.head_node i N.leaving.is_arc

  other : (u : ℕ) → (u ≢ w) × (u ≢ mate w) → u / 2 ≢ w / 2
  other u n q = ⊎_elim n.0 n.1 (half_pair u w q)

  step : TreeStep g (state_in L k) i (state_in (after w) (k + 1))
  step =
      let b : get_or (set L.births w k) w 0 ≡ k = get_or-set_same L.births w k 0 (omega (arith, H.births_long, head_low)) in
      let s : (x : ℕ) → get_or (set L.bases (w / 2) w) (w / 2) x ≡ w = λ x. get_or-set_same L.bases (w / 2) w x (omega (arith, H.bases_long, head_low)) in
      record {
        reached_head = rw b (lt-ltb 0 k H.clock_late);
        reached_other = λ u n. rw (get_or-set_other L.births w u k 0 n);
        base_head = s _;
        base_head_mate = rw (mate_half w) (s _);
        base_other = λ u n. get_or-set_other L.bases (w / 2) (u / 2) w _ (other u n);
        via_head = get_or-set_same L.vias w i 0 (omega (arith, H.vias_long, head_low));
        via_other = λ u n. get_or-set_other L.vias w u i 0 n;
        birth_head = b;
        birth_other = λ u n. get_or-set_other L.births w u k 0 n;
        clock_next = add-one k;
      }

  state : StateHeld g (after w) (k + 1)
  state =
      record {
        invariant =
            tree_step_keeps _ _ H.invariant i N.leaving.is_arc N.leaving.tail_reached N.head_new N.mate_new _ step;
        births_long = length-set L.births w k ∙ H.births_long;
        vias_long = length-set L.vias w i ∙ H.vias_long;
        bases_long = length-set L.bases (w / 2) w ∙ H.bases_long;
        base_node = λ j l.
            ⊎_elim (λ (q : j ≡ w / 2). rw (q, get_or-set_same L.bases (w / 2) w 0 (omega (arith, H.bases_long, head_low))) head_low)
            (λ n. rw (get_or-set_other L.bases (w / 2) j w 0 n) (H.base_node j l)) (same_or j (w / 2));
        clock_late = omega arith;
        clock_bound =
            omega (
              arith,
              H.clock_bound,
              tree_step_less g S.table.well_formed (state_in L k) H.invariant i N.leaving.is_arc N.leaving.tail_reached N.head_new
                  N.mate_new (state_in (after w) (k + 1)) step,
            );
      }

  pub tree_stepped : TreeStepped g L k i (head_reached L k i (head g i))
  tree_stepped =
      record { state = state; step = step }
