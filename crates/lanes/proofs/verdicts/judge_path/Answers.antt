-- `lanes::verdicts::judge_path` meets its contract: a path refused, or judged by its stored arc numbers.
use Rattle.std.proofs.Common.{refl, ap, ◌∙◌, arith}
use Rattle.arcs.specs.Lent.{graph_of}
use Rattle.skew.specs.Graph.{is_wanted}
use Rattle.files.specs.CertificateFile.{path_arcs}
use Rattle.files.proofs.CertificateFiles.{path_held, path_says}
use Rattle.lanes.proofs.Checks.{refused, judged}
use Rattle.lanes.proofs.verdicts.judge_path.Goals as goal

pub returns-in_err-count : goal.returns-in_err-count
returns-in_err-count c =
    let g = graph_of c.args.graph.now in
    refused _ _ (is_wanted g (path_arcs c.args.cert.now)) c.from_residual.ensures (path_says c.in_err-count.ensures g refl)

pub is_wanted-requires : goal.is_wanted-requires
is_wanted-requires c =
    let T = c.args.graph.now.is_table in
    record {
      arcs = record { source_byte = omega (arith, T.well_formed, T.pairs_few); arcs_few = T.arcs_few };
      inside = (path_held c.in_ok-count.ensures refl).below;
    }

pub returns : goal.returns
returns c =
    let g = graph_of c.args.graph.now in
    judged (path_says c.in_ok-count.ensures g refl) (c.is_wanted.ensures c.args.graph.now.pairs ∙ ap (is_wanted g) (path_held c.in_ok-count.ensures refl).arcs_are)
