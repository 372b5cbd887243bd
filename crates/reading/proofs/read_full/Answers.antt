use Rattle.std.proofs.Common.{rules}
use Rattle.reading.proofs.KnownBytes.{consumes_then, take_further}
use Rattle.reading.proofs.read_full.Goals as goal

pub loop-done-preserved : goal.loop-done-preserved
loop-done-preserved g c =
    (search rules, rw (take_further _ _ _ _ _ c.loop-done.invariant.0 c.in-Ok.ensures.bound.0) (consumes_then _ _ _ _ _ c.loop-done.invariant.1 c.in-Ok.ensures.bytes.0))
