-- `lanes::stock_calls::write_stock` meets its contract: the pairs and the marks that the search hands out, written.
use Rattle.std.proofs.Common.{◌≤◌, length, sym, arith}
use Rattle.std.proofs.lemmas.List.{length-take-le}
use Rattle.lanes.proofs.StockCalls.{plan_few, stock_written}
use Rattle.lanes.proofs.stock_calls.write_stock.Goals as goal
use Rattle.lanes.proofs.stock_calls.write_stock.Goals.{After-plan-count}

inside : (c : After-plan-count) → c.plan-count.result ≤ length c.plan-count.new.pairs
inside c = omega (arith, plan_few c.args.stock.now.is_table c.plan-count.ensures)

pub slice_bounds-pairs-end : goal.slice_bounds-pairs-end
slice_bounds-pairs-end c = inside (goal.at.slice_bounds-pairs-end c).After-plan-count

pub slice_bounds-put_plan_and_sheet-end : goal.slice_bounds-put_plan_and_sheet-end
slice_bounds-put_plan_and_sheet-end c = sym (length-take-le _ _ (inside (goal.at.slice_bounds-put_plan_and_sheet-end c).After-plan-count))

pub returns : goal.returns
returns c = stock_written c.args.stock.now.is_table c.plan-count.ensures (omega arith) c.put_plan_and_sheet.ensures
