-- `lanes::verdicts::judge` meets its contract: the answer by the file's first line is the certificate's.
use Rattle.std.proofs.Common.{sym, ◌∙◌}
use Rattle.arcs.specs.Lent.{graph_of}
use Rattle.lanes.proofs.Checks.{barrier_verdict_lem, path_verdict_lem}
use Rattle.lanes.proofs.verdicts.judge.Goals as goal

pub returns-then-begins_barrier : goal.returns-then-begins_barrier
returns-then-begins_barrier c =
    c.judge_barrier.ensures ∙ barrier_verdict_lem (graph_of c.args.graph.now) c.args.cert.now (sym c.begins_barrier.ensures ∙ c.if-begins_barrier.true)

pub returns-else-begins_barrier : goal.returns-else-begins_barrier
returns-else-begins_barrier c =
    c.judge_path.ensures ∙ path_verdict_lem (graph_of c.args.graph.now) c.args.cert.now (sym c.begins_barrier.ensures ∙ c.if-begins_barrier.false)
