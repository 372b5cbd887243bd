-- `kept::slots::pass_slot` meets its contract: a slot that has another name is moved.
use Rattle.kept.proofs.Entries.{passed_else}
use Rattle.kept.proofs.slots.pass_slot.Goals as goal

pub returns : goal.returns
returns c = passed_else c.args.name c.requires (rw c.at.ensures at c.if-state-at.false) c.move_slot.ensures
