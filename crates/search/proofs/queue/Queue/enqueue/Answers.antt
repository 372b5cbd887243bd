use Rattle.search.proofs.Queues.{pushed_is, enqueuing_room, enqueuing_next, enqueuing_skip}
use Rattle.search.proofs.queue.Queue.enqueue.Goals as goal
use Rattle.search.proofs.queue.Queue.enqueue.Goals.{then-b-clock, else-b-clock}

pub push-requires : goal.push-requires
push-requires c = enqueuing_room c.loop-v.invariant c.loop-v-test.true c.if-b-clock.true

pub loop-v-preserved : goal.loop-v-preserved
loop-v-preserved c =
    let E = c.loop-v.invariant in
    let h = c.loop-v-test.true in
    elim c.if-b-clock.branch [
      | then-b-clock w ↦ rw (w.self-is, pushed_is w.push.ensures) (enqueuing_next E h w.if-b-clock.true)
      | else-b-clock w ↦ rw w.self-is (enqueuing_skip E h w.if-b-clock.false)
    ]
