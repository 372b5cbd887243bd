-- `files::look_up::look_up` meets its contract: the first fit that is not smaller ends the look-up.
use Rattle.std.proofs.Common.{◌≡◌, ◌∙◌, rules, sym, not, position}
use Rattle.std.proofs.lemmas.Iterator.{YieldsList-from_slice}
use Rattle.std.proofs.lemmas.Iterator.Search.{position_from_yields_List}
use Rattle.counting.specs.declared.Pair.{Pair}
use Rattle.matching.specs.Stock.{pair_before}
use Rattle.files.proofs.PairScans.{look_found, look_none}
use Rattle.files.proofs.look_up.look_up.Goals as goal
use Rattle.files.proofs.look_up.look_up.Goals.{After-position-at}

place_at : (c : After-position-at) → position (λ (y : Pair). not (pair_before y c.args.pair)) c.args.fits.now ≡ c.position-at.result
place_at c =
    let test = λ (y : Pair). not (pair_before y c.args.pair) in
    sym (position_from_yields_List test _ _ _ c.position-at.ensures.ran (YieldsList-from_slice c.args.fits.now cc) (λ x b q k. search rules))

pub returns-in-Some : goal.returns-in-Some
returns-in-Some c = look_found _ _ _ (place_at (goal.at.returns-in-Some c).After-position-at ∙ c.in-Some.is) c.eq.ensures

pub returns-in-None : goal.returns-in-None
returns-in-None c = look_none _ _ (place_at (goal.at.returns-in-None c).After-position-at ∙ c.in-None.is)
