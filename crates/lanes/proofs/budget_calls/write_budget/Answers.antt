-- `lanes::budget_calls::write_budget` meets its contract: the pairs that a run of searches hands out, written.
use Rattle.std.proofs.Common.{◌≤◌, length, sym, arith}
use Rattle.std.proofs.lemmas.List.{length-take-le}
use Rattle.lanes.proofs.BudgetCalls.{budget_few, budget_written}
use Rattle.lanes.proofs.budget_calls.write_budget.Goals as goal
use Rattle.lanes.proofs.budget_calls.write_budget.Goals.{After-budget-found}

inside : (c : After-budget-found) → c.budget-found.result.pairs ≤ length c.budget-found.new.pairs
inside c = omega (arith, (budget_few c.args.stock.now.is_table c.budget-found.ensures).0)

pub missing_lanes-missing-requires : goal.missing_lanes-missing-requires
missing_lanes-missing-requires c = (budget_few c.args.stock.now.is_table c.budget-found.ensures).1

pub slice_bounds-pairs-end : goal.slice_bounds-pairs-end
slice_bounds-pairs-end c = inside (goal.at.slice_bounds-pairs-end c).After-budget-found

pub slice_bounds-put_budget-end : goal.slice_bounds-put_budget-end
slice_bounds-put_budget-end c = sym (length-take-le _ _ (inside (goal.at.slice_bounds-put_budget-end c).After-budget-found))

pub returns : goal.returns
returns c =
    budget_written c.args.stock.now.is_table c.budget-found.ensures (omega arith) c.requires.most_le_searches_most c.missing_lanes-missing.ensures c.put_budget.ensures
