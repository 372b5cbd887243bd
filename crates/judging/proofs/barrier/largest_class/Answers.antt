-- The largest is as large as each, and is one of them.
use Rattle.std.proofs.Common.{◌∙◌, rules}
use Rattle.std.proofs.iter.runs.Made.{chains}
use Rattle.judging.proofs.Barriers.{largest_or}
use Rattle.judging.proofs.barrier.largest_class.Goals as goal

pub returns : goal.returns
returns c = c.unwrap_or.ensures ∙ largest_or c.args.classes.now c.max.result (search (rules, chains)) (search (rules, chains))
