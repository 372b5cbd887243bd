use Rattle.pairing.proofs.SearchRuns.{budget_listed}
use Rattle.pairing.proofs.plan.budget.Goals as goal

pub returns : goal.returns
returns c = budget_listed c.args.stock.now.is_table (record { row = _; ran = c.run_searches-ending.ensures; written = c.list_pairs.ensures })
