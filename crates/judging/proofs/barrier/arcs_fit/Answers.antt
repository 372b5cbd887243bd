use Rattle.std.proofs.Common.{◌∙◌, rules, arith}
use Rattle.std.proofs.iter.runs.Made.{chains}
use Rattle.std.proofs.iter.Serving.{serving}
use Rattle.skew.specs.Graph.{no_arc}
use Rattle.judging.specs.Barriers.{arc_allowed}
use Rattle.judging.proofs.Barriers.{each_of, arc_low, all_allowed}
use Rattle.judging.proofs.barrier.arcs_fit.Goals as goal

pub all-requires-clause-callable : goal.all-requires-clause-callable
all-requires-clause-callable c = grind (arith, serving, arc_low c.requires)

pub returns : goal.returns
returns c =
    let cs = c.args.classes.now in
    let xs = c.args.arcs.now in
    each_of (arc_allowed cs) xs no_arc c.all.result (search (rules, chains)) ∙ all_allowed cs xs
