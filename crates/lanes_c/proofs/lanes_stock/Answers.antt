-- `lanes_c::lanes_stock` meets its contract.
use Rattle.lanes.specs.Calls.{told_in}
use Rattle.lanes_c.proofs.Tallies.{called}
use Rattle.lanes_c.proofs.lanes_stock.Goals as goal

pub returns : goal.returns
returns c =
    let a = c.args in
    let answer = c.stock_by in
    let told = c.told.ensures in
    called a.tally.now a.caller (told_in answer.result) answer.ensures.owes told.value told.counted answer.ensures.outcome
