-- `kept::slots::close_up` meets its contract: the slots below `number` are passed.
use Rattle.kept.specs.Slots.{Closing}
use Rattle.kept.proofs.slots.close_up.Given as goal

abbrev pub invariant-loop-number : goal.invariant-loop-number
invariant-loop-number l = Closing l.initial.state l.name l.state l.number l.left
