-- `lanes::budget_calls::budget_by` meets its contract: refused, or what was written is what is owed.
use Rattle.std.proofs.Common.{sym, ◌∙◌}
use Rattle.lanes.proofs.CallFaults.{call_refused}
use Rattle.lanes.proofs.BudgetCalls.{most_refused, file_fault, budget_refused, budget_answered}
use Rattle.lanes.proofs.budget_calls.budget_by.Goals as goal

pub returns-in_err-ask_call : goal.returns-in_err-ask_call
returns-in_err-ask_call c =
    budget_refused _ _ c.from_residual.ensures (call_refused c.in_err-ask_call.ensures _)

pub returns-in_err-ask : goal.returns-in_err-ask
returns-in_err-ask c =
    budget_refused _ _ c.from_residual-in_err-ask.ensures (most_refused c.in_ok-ask_call.ensures c.args.most c.args.file.now _ c.in_err-ask.ensures)

pub returns-in_err-stock : goal.returns-in_err-stock
returns-in_err-stock c =
    budget_refused _ _ c.from_residual-in_err-stock.ensures
    (file_fault c.in_ok-ask_call.ensures c.args.most c.args.file.now c.in_ok-ask.ensures ∙ sym c.in_err-stock.ensures)

pub returns : goal.returns
returns c =
    let taken = c.in_ok-stock.ensures in budget_answered taken.0 taken.1 c.in_ok-ask_call.ensures c.in_ok-ask.ensures c.write_budget.ensures
