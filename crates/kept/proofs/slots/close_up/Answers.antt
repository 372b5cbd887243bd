use native.Mathlib.Omega.{arith}
use Rattle.kept.proofs.Entries.{closing_start, closing_next}
use Rattle.kept.proofs.slots.close_up.Goals as goal

pub loop-number-init : goal.loop-number-init
loop-number-init c = closing_start c.args.state.now c.args.name

pub loop-number-preserved : goal.loop-number-preserved
loop-number-preserved c = closing_next c.loop-number.invariant (omega (arith, c.kept_in-number-end.ensures)) c.pass_slot-left.ensures
