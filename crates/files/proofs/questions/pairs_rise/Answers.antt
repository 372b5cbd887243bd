-- `files::questions::pairs_rise` meets its contract: each pair is asked, then each two side by side.
use Rattle.std.proofs.Common.{◌≡◌, ◌∙◌, rules, sym, ltb}
use Rattle.std.proofs.lemmas.Iterator.{YieldsList-from_slice}
use Rattle.counting.specs.Tests.{all}
use Rattle.counting.specs.Pairs.{no_pair}
use Rattle.counting.specs.declared.Pair.{Pair}
use Rattle.matching.specs.Stock.{pair_before}
use Rattle.files.proofs.PairScans.{all_of, both, yields_neighbours, rise_neighbours}
use Rattle.files.proofs.questions.pairs_rise.Goals as goal
use Rattle.files.proofs.questions.pairs_rise.Goals.{After-all}

pairs_asked : (c : After-all) → all (λ (x : Pair). ltb x.first x.second) c.args.pairs.now ≡ c.all.result
pairs_asked c =
    sym (all_of (λ (x : Pair). ltb x.first x.second) (YieldsList-from_slice c.args.pairs.now cc) c.all.ensures.ran (λ x b q k. search rules))

pub returns-then-all : goal.returns-then-all
returns-then-all c =
    let one = pairs_asked (goal.at.returns-then-all c).After-all ∙ c.if-all.true in
    all_of (both no_pair pair_before) (yields_neighbours c.args.pairs.now (cc) (cc)) c.all-then-all.ensures.ran (λ x b q k. search rules) ∙
    (rw one at (rise_neighbours c.args.pairs.now))

pub returns-else-all : goal.returns-else-all
returns-else-all c =
    let one = pairs_asked (goal.at.returns-else-all c).After-all ∙ c.if-all.false in
    c.if-all.false ∙ (rw one at (rise_neighbours c.args.pairs.now))
