use mathlib.Core.Path.{refl}
use native.Mathlib.Omega.{arith}
use Rattle.frames.proofs.LineEnds.{end_within}
use Rattle.frames.proofs.LinePlaces.{part_tail, same_start, same_control, same_next, same_ended, same_over}
use Rattle.frames.proofs.lines.line_at.Goals as goal

pub loop-end-init : goal.loop-end-init
loop-end-init c = rw c.first_control-end.ensures (same_control (same_start _ _ c.requires))

pub overflow_add-result : goal.overflow_add-result
overflow_add-result c =
    let e = rw part_tail at c.in-Some.ensures in
    omega (arith, end_within c.args.f.now c.loop-end.end c.loop-end.invariant.high, e.0)

pub returns-in-Some : goal.returns-in-Some
returns-in-Some c = let e = rw part_tail at c.in-Some.ensures in (refl, same_ended c.loop-end.invariant c.requires e.0 e.1)

pub loop-end-preserved : goal.loop-end-preserved
loop-end-preserved c =
    rw c.first_control-end-in-loop-end.ensures
    (same_control (same_next c.loop-end.invariant c.loop-end-test.true (rw part_tail at c.in_default.ensures)))

pub returns : goal.returns
returns c = (refl, same_over c.loop-end.invariant c.requires c.loop-end-test.false)
