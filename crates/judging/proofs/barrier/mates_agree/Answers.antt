use Rattle.std.proofs.Common.{rules}
use Rattle.std.proofs.iter.runs.Sources.{ranges}
use Rattle.judging.proofs.Barriers.{each_below}
use Rattle.judging.proofs.barrier.mates_agree.Goals as goal

pub returns : goal.returns
returns c = each_below _ _ _ (search (rules, ranges))
