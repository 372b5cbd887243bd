use Rattle.std.proofs.Common.{get_or, arith, append-nil, map}
use Rattle.std.proofs.lemmas.List.{get_or_default, take_all, drop_all}
use Rattle.std.proofs.lemmas.List.Edits.{map_over_more}
use Rattle.skew.specs.Graph.{mate}
use Rattle.search.proofs.Reverses.{reverse_map_is}
use Rattle.search.proofs.restore.mate_reverse.Goals as goal

pub loop-arc-preserved : goal.loop-arc-preserved
loop-arc-preserved c =
    let w = c.loop-arc in
    rw c.mate_of.ensures
    (map_over_more mate c.args.part.now w.part w.arc-index (get_or w.part w.arc-index 0) c.loop-arc-test.true w.invariant
    (get_or_default w.part w.arc-index 0 (get_or w.part w.arc-index 0) (omega arith)))

pub returns : goal.returns
returns c =
    let w = c.loop-arc in
    let xs = c.args.part.now in
    let all = c.loop-arc-test.false in
    rw (c.reverse.ensures.after, w.invariant, take_all w.arc-index xs all, drop_all w.arc-index xs all, append-nil (map mate xs))
    (reverse_map_is mate xs)
