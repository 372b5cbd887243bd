use Rattle.std.proofs.Common.{sym, arith}
use Rattle.judging.proofs.Walks.{walking_start, walking_end, walking_apart, walking_seen, walking_used, walking_next}
use Rattle.judging.proofs.path.is_wanted.Goals as goal

pub loop-k-init : goal.loop-k-init
loop-k-init c = walking_start c.requires

pub returns-then-tail-at : goal.returns-then-tail-at
returns-then-tail-at c = walking_apart c.loop-k.invariant c.loop-k-test.true c.from-i.ensures c.ends-tail.ensures.tail c.if-tail-at.true

pub returns-then-seen-at : goal.returns-then-seen-at
returns-then-seen-at c =
    walking_seen c.loop-k.invariant c.loop-k-test.true c.from-i.ensures c.ends-tail.ensures.tail c.if-tail-at.false c.ends-tail.ensures.head c.if-seen-at.true

pub returns-then-used-mate_of : goal.returns-then-used-mate_of
returns-then-used-mate_of c =
    walking_used c.loop-k.invariant c.loop-k-test.true c.from-i.ensures c.ends-tail.ensures.tail c.if-tail-at.false c.ends-tail.ensures.head c.if-seen-at.false c.mate_of.ensures c.if-used-mate_of.true

pub loop-k-preserved : goal.loop-k-preserved
loop-k-preserved c =
    walking_next c.loop-k.invariant c.loop-k-test.true c.from-i.ensures c.ends-tail.ensures.tail c.if-tail-at.false c.ends-tail.ensures.head c.if-seen-at.false c.mate_of.ensures c.if-used-mate_of.false (omega arith)

pub returns : goal.returns
returns c n = rw c.mate_of-2.ensures (sym (walking_end c.loop-k.invariant (omega arith) n))
