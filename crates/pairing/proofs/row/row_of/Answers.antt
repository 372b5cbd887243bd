-- Each camera is its own partner, and then the pairs that the iterator has taken from the end are lit.
use Rattle.std.proofs.Common.{◌∙◌, ◌<◌, length, arith, length-set}
use Rattle.pairing.proofs.RowPairs.{lit_start, lit_named, lit_next}
use Rattle.pairing.proofs.row.row_of.Goals as goal
use Rattle.pairing.proofs.row.row_of.Goals.{In-Some}

-- the pair at hand is of two cameras
named : (c : In-Some) → let l = c.loop-pair in let x = c.in-Some.pair.now in (x.first < length l.row) × (x.second < length l.row)
named c =
    let T = c.args.stock.now.is_table in
    let L = c.loop-pair.invariant in
    let long = L.long in
    let same = c.loop-k.auto.row in
    let low = lit_named T L _ c.in-Some.pair.now c.in-Some.ensures.steps in
    (omega (arith, c.requires), omega (arith, c.requires))

pub loop-pair-init : goal.loop-pair-init
loop-pair-init c = rw (c.into_iter-pair-iterator.ensures.into_iter_gives, c.rev-pair-items.ensures.source, c.iter.ensures.rest) (lit_start (λ k h. c.loop-k.invariant k (omega arith)))

pub bounds-row-second : goal.bounds-row-second
bounds-row-second c = omega (arith, c.numbers-first.ensures.second, named (goal.at.bounds-row-second c).In-Some)

pub bounds-row-first : goal.bounds-row-first
bounds-row-first c = rw length-set (omega (arith, c.numbers-first.ensures.first, named (goal.at.bounds-row-first c).In-Some))

pub loop-pair-preserved : goal.loop-pair-preserved
loop-pair-preserved c =
    rw (c.numbers-first.ensures.first, c.numbers-first.ensures.second)
    (lit_next c.args.stock.now.is_table c.loop-pair.invariant (c.loop-k.auto.row ∙ c.requires) _ c.in-Some.pair.now c.in-Some.ensures.steps)
