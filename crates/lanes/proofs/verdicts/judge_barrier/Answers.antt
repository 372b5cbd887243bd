-- `lanes::verdicts::judge_barrier` meets its contract: a barrier refused, or judged by its stored classes.
use Rattle.std.proofs.Common.{refl, ap, ◌∙◌}
use Rattle.arcs.specs.Lent.{graph_of}
use Rattle.skew.specs.Graph.{is_barrier}
use Rattle.files.specs.CertificateFile.{barrier_classes}
use Rattle.files.proofs.CertificateFiles.{barrier_held, barrier_says}
use Rattle.lanes.proofs.Checks.{refused, judged}
use Rattle.lanes.proofs.verdicts.judge_barrier.Goals as goal

pub returns-in_err-count : goal.returns-in_err-count
returns-in_err-count c =
    let g = graph_of c.args.graph.now in
    refused _ _ (is_barrier g (barrier_classes c.args.cert.now)) c.from_residual.ensures (barrier_says c.in_err-count.ensures g refl)

pub returns : goal.returns
returns c =
    let g = graph_of c.args.graph.now in
    judged (barrier_says c.in_ok-count.ensures g refl) (c.is_barrier.ensures ∙ ap (is_barrier g) (barrier_held c.in_ok-count.ensures refl).classes_are)
