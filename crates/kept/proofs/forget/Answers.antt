-- `kept::forget` meets its contract: the name is not kept, or its slots are dropped and the others closed up.
use Rattle.kept.proofs.Calls.{forgot}
use Rattle.kept.proofs.forget.Goals as goal

pub returns : goal.returns
returns c =
    let found = rw c.in_ok-ok_or.ensures.ok_part at c.find.ensures in
    forgot c.args.state.now c.args.name c.in_ok-ok_or.field-0 found c.close_up-left.ensures c.put_kept.ensures
