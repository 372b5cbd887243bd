-- `lanes_c::lanes_budget` meets its contract.
use Rattle.std.proofs.Common.{◌≡◌, ap, arith, rules, ◌∙◌}
use Rattle.lanes.specs.Entry.{searched_of}
use Rattle.lanes.proofs.BudgetCalls.{as_answer}
use Rattle.lanes_c.specs.Exported.{packed}
use Rattle.lanes_c.proofs.Tallies.{called}
use Rattle.lanes_c.proofs.lanes_budget.Goals as goal

pub returns : goal.returns
returns c =
    let a = c.args in
    let answer = c.budget_by-answer in
    let told = c.told.ensures in
    let searches : c.map_or-searches.result ≡ (searched_of answer.result).searches = search rules in
    let same = as_answer answer.result c.map.result c.map.ensures.cases in
    called a.tally.now a.caller (searched_of answer.result) answer.ensures.owes
    (omega (arith, searches, told.value, ap packed same.0))
    told.counted (same.1 ∙ answer.ensures.outcome)
