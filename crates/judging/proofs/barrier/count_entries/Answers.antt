use Rattle.std.proofs.Common.{arith}
use Rattle.judging.proofs.Barriers.{counting_start, counting_enters, counting_passes, counting_end, counting_small}
use Rattle.judging.proofs.barrier.count_entries.Goals as goal
use Rattle.judging.proofs.barrier.count_entries.Goals.{then-classes-tail-eq-A, else-classes-tail-eq-A}

pub loop-arc-init : goal.loop-arc-init
loop-arc-init c = counting_start _ _

pub overflow_add-entries : goal.overflow_add-entries
overflow_add-entries c =
    omega (arith, counting_small c.loop-arc.invariant c.from.result (omega arith), c.requires.arcs_few)

pub loop-arc-preserved : goal.loop-arc-preserved
loop-arc-preserved c =
    let C = c.loop-arc.invariant in
    let l = c.loop-arc-test.true in
    elim c.if-classes-tail-eq-A.branch [
      | then-classes-tail-eq-A w ↦
          rw w.entries-is (counting_enters C l c.ends-tail.ensures.tail c.ends-tail.ensures.head (omega arith) w.if-classes-tail-eq-A.true w.from.ensures)
      | else-classes-tail-eq-A w ↦ rw w.entries-is (counting_passes C l (rw c.ends-tail.ensures.tail at w.if-classes-tail-eq-A.false))
    ]

pub returns : goal.returns
returns c = counting_end c.loop-arc.invariant (omega arith)
