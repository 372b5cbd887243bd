use Rattle.std.proofs.Common.{◌∙◌, arith}
use Rattle.pairing.proofs.FollowedPaths.{following_turn, following_end}
use Rattle.pairing.proofs.row.augment.Goals as goal

pub loop-turn-preserved : goal.loop-turn-preserved
loop-turn-preserved c =
    let inv = c.loop-turn.invariant in
    let s = c.in-Some.ensures.steps in
    (s.0 ∙ inv.0, rw c.rotate.ensures (following_turn inv.1 c.in-Some.turn.now _ s.1.0 (s.1.1 ∙ inv.0)).next)

pub returns : goal.returns
returns c =
    let inv = c.loop-turn.invariant in
    let s = c.in-None.ensures.steps in
    following_end inv.1 (omega (arith, s.1.0, inv.0))
