use native.Mathlib.Omega.{arith}
use Rattle.search.proofs.Ascents.{ascending_start, mates, turned, rising, rising_other, ascended}
use Rattle.search.proofs.BudSteps.{marks_fit}
use Rattle.search.proofs.steps.Labels.ascend.Goals as goal

pub loop-p-init : goal.loop-p-init
loop-p-init c =
    rw (c.ends-tail.ensures.tail, c.mate_of.ensures, c.ends-tail.ensures.head) (ascending_start c.requires.bridging c.requires.clear)

-- the end at q goes up
pub absorb-q-requires : goal.absorb-q-requires
absorb-q-requires c = (rising c.loop-p.invariant c.loop-p-test.true c.if-birth_p-birth_q.true).absorbs

pub loop-p-smaller-then-birth_p-birth_q : goal.loop-p-smaller-then-birth_p-birth_q
loop-p-smaller-then-birth_p-birth_q c =
    let R = rising c.loop-p.invariant c.loop-p-test.true c.if-birth_p-birth_q.true in omega (arith, (R.next c.absorb-q.ensures).1)

pub loop-p-preserved-then-birth_p-birth_q : goal.loop-p-preserved-then-birth_p-birth_q
loop-p-preserved-then-birth_p-birth_q c =
    let R = rising c.loop-p.invariant c.loop-p-test.true c.if-birth_p-birth_q.true in (R.next c.absorb-q.ensures).0

-- the end at p
pub absorb-p-requires : goal.absorb-p-requires
absorb-p-requires c = (rising_other c.loop-p.invariant c.mate_of-j.ensures c.loop-p-test.true c.if-birth_p-birth_q.false).absorbs

pub loop-p-smaller : goal.loop-p-smaller
loop-p-smaller c =
    let R = rising_other c.loop-p.invariant c.mate_of-j.ensures c.loop-p-test.true c.if-birth_p-birth_q.false in
    omega (arith, (R.next c.absorb-p.ensures).1)

pub loop-p-preserved : goal.loop-p-preserved
loop-p-preserved c =
    let R = rising_other c.loop-p.invariant c.mate_of-j.ensures c.loop-p-test.true c.if-birth_p-birth_q.false in
    turned (R.next c.absorb-p.ensures).0 (mates c.mate_of-j.ensures)

pub returns : goal.returns
returns c =
    let end = ascended c.loop-p.invariant c.loop-p-test.false (rw c.mate_of-2.ensures at c.label.ensures) in
    let b = c.requires.bridging in
    record { fit = marks_fit b.1 (end b.0 b.1); ascended = end }
