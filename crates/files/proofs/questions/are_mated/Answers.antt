use Rattle.std.proofs.Common.{◌∙◌, rules}
use Rattle.skew.specs.Graph.{no_arc, are_mates}
use Rattle.files.proofs.PairScans.{all_of, both, yields_twos, mates_twos}
use Rattle.files.proofs.questions.are_mated.Goals as goal

pub returns : goal.returns
returns c =
    all_of (both no_arc are_mates) (yields_twos c.args.arcs.now (cc) (cc)) c.all.ensures.ran (λ x b q k. search rules) ∙
    mates_twos c.args.arcs.now
