-- The nodes before v that the event reached stand in the queue.
use Rattle.search.specs.Lent.{queue_of}
use Rattle.search.proofs.Queues.{Enqueuing}
use Rattle.search.proofs.queue.Queue.enqueue.Given as goal

abbrev pub invariant-loop-v : goal.invariant-loop-v
invariant-loop-v l =
    Enqueuing l.labels.birth.now l.clock (queue_of l.initial.self) (queue_of l.self) l.v
