-- `lanes::check` meets its contract: the graph refused, or the certificate judged over the graph that was read.
use Rattle.std.proofs.Common.{subst, ◌∙◌}
use Rattle.lanes.specs.Taken.{GraphTaken}
use Rattle.lanes.proofs.Checks.{ok_through, verdict_told, check_judged}
use Rattle.lanes.proofs.check.Goals as goal

pub returns : goal.returns
returns c =
    let f = c.args.graph.now in
    let taken = subst (GraphTaken f) (ok_through _ _ _ c.map_err.ensures.cases c.in_ok-graph.was) c.graph_in.ensures in
    check_judged f c.args.cert.now taken.0 taken.1 (verdict_told _ _ c.map_err-2.ensures.cases ∙ c.judge.ensures)
