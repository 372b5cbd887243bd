use Rattle.std.proofs.Common.{rules}
use Rattle.std.proofs.iter.runs.Sources.{ranges}
use Rattle.judging.proofs.Barriers.{entered_from}
use Rattle.judging.proofs.barrier.all_entered.Goals as goal

pub returns : goal.returns
returns c = entered_from _ _ _ (search (rules, ranges))
