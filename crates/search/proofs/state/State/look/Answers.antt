-- The step that the arc asks for, case by case.
use mathlib.Core.Path.{sym}
use Rattle.search.proofs.States.{arc_within}
use Rattle.search.proofs.Queues.{pushed_is}
use Rattle.search.proofs.Looks.{head_within, looked_old, new_room, looked_new, looked_settled, births_clear, bridging, bud_queue, looked_bud}
use Rattle.search.proofs.state.State.look.Goals as goal

-- the head's mate is new
pub returns-then-is_reached : goal.returns-then-is_reached
returns-then-is_reached c =
    looked_old c.requires c.from-y.ensures c.mate_of-m.ensures (sym c.if-not-is_reached.ensures) (sym c.if-is_reached.ensures)

pub tree_step-requires : goal.tree_step-requires
tree_step-requires c = head_within c.requires c.from-y.ensures c.mate_of-m.ensures

pub push-requires : goal.push-requires
push-requires c =
    new_room c.requires c.from-y.ensures c.mate_of-m.ensures (sym c.if-not-is_reached.ensures) (sym c.if-is_reached.ensures)

pub returns-then-not-is_reached : goal.returns-then-not-is_reached
returns-then-not-is_reached c =
    looked_new c.requires c.from-y.ensures c.mate_of-m.ensures (sym c.if-not-is_reached.ensures) (sym c.if-is_reached.ensures)
    c.tree_step.ensures (pushed_is c.push.ensures)

-- the head's mate is reached
pub is_settled-requires : goal.is_settled-requires
is_settled-requires c = let A = c.requires.leaving in arc_within A.held A.is_arc

pub returns-then-is_settled : goal.returns-then-is_settled
returns-then-is_settled c =
    looked_settled c.requires c.from-y.ensures c.mate_of-m.ensures (sym c.if-not-is_reached.ensures) (sym c.if-is_settled.ensures)

pub bud_step-requires : goal.bud_step-requires
bud_step-requires c =
    record {
      bridging =
          bridging c.requires c.from-y.ensures c.mate_of-m.ensures (sym c.if-not-is_reached.ensures) (sym c.if-is_settled.ensures);
      clear = births_clear c.requires;
    }

pub enqueue-requires : goal.enqueue-requires
enqueue-requires c =
    let Q = bud_queue c.requires c.bud_step.ensures.stepped in record { queue_len = Q.0; queued = Q.1 }

pub returns : goal.returns
returns c = looked_bud c.requires c.bud_step.ensures.stepped c.bud_step.ensures.cleared c.enqueue.ensures
