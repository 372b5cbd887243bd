-- `kept::slots::write_pairs` meets its contract.
use mathlib.Core.Path.{◌∙◌}
use Rattle.kept.proofs.Fillings.{pairs_written}
use Rattle.kept.proofs.slots.write_pairs.Goals as goal

pub returns : goal.returns
returns c =
    let most = c.min-most.ensures ∙ (rw (c.from.ensures, c.at.ensures)) in
    let columns = rw (c.pairs.ensures.at, c.pairs.ensures.most) at c.parts.ensures.pairs in
    pairs_written c.args.slot.number c.args.state.now most columns c.put_plan_columns.ensures.text
