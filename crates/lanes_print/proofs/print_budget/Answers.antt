use Rattle.std.proofs.Common.{arith}
use Rattle.lanes.proofs.BudgetCalls.{as_answer}
use Rattle.lanes_print.proofs.Printing.{budget_prints}
use Rattle.lanes_print.proofs.print_budget.Goals as goal

pub returns : goal.returns
returns c =
    let same = as_answer c.budget_by.result c.map-answer.result c.map-answer.ensures.cases in
    budget_prints _ c.args.file.now (omega arith) (rw c.most_said.ensures at c.budget_by.ensures.owes) (rw same.0 at c.show.ensures)
