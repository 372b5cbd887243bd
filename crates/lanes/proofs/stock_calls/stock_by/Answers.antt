-- `lanes::stock_calls::stock_by` meets its contract: refused, or what was written is what is owed.
use Rattle.std.proofs.Common.{sym, ◌∙◌}
use Rattle.lanes.proofs.CallFaults.{call_refused, call_passes}
use Rattle.lanes.proofs.StockCalls.{stock_refused, stock_answered}
use Rattle.lanes.proofs.stock_calls.stock_by.Goals as goal

pub returns-in_err-ask_call : goal.returns-in_err-ask_call
returns-in_err-ask_call c =
    stock_refused _ _ c.from_residual.ensures (call_refused c.in_err-ask_call.ensures _)

pub returns-in_err-stock : goal.returns-in_err-stock
returns-in_err-stock c =
    stock_refused _ _ c.from_residual-in_err-stock.ensures (call_passes c.in_ok-ask_call.ensures _ ∙ sym c.in_err-stock.ensures)

pub returns : goal.returns
returns c =
    let taken = c.in_ok-stock.ensures in stock_answered taken.0 taken.1 c.in_ok-ask_call.ensures c.write_stock.ensures
