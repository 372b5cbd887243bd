use Rattle.std.proofs.Common.{◌∙◌, rules, ℕ, eqb, leb, ◌&&◌}
use Rattle.std.proofs.lemmas.Iterator.{YieldsList-from_slice}
use Rattle.std.proofs.lemmas.Iterator.Consumers.{YieldsList-from_enumerate}
use Rattle.formats.specs.Limits.{class_most}
use Rattle.counting.specs.declared.Pair.{Pair}
use Rattle.files.proofs.PairScans.{all_of, order_places}
use Rattle.files.proofs.questions.in_order.Goals as goal

pub returns : goal.returns
returns c =
    all_of (λ (p : ℕ × Pair). eqb p.1.first p.0 && leb p.1.second class_most)
    (YieldsList-from_enumerate (YieldsList-from_slice c.args.lines.now (cc)) (cc)) c.all.ensures.ran (λ x b q k. search rules) ∙
    order_places 0 c.args.lines.now
