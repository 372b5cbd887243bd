use Rattle.std.proofs.Common.{arith, rules, length, ap, ◌∙◌, length-set}
use mathlib.Core.Logic.{inl, inr, ⊎_elim}
use Rattle.counting.proofs.SliceVecs.{extending_next, extending_end, extending_room}
use Rattle.pairing.proofs.DoubledTables.{fit_named}
use Rattle.pairing.proofs.CameraMarks.{flags_start, flags_next, marks_size, marks_next, marks_none, marks_fill}
use Rattle.pairing.proofs.marks.marks_of.Goals as goal

pub loop-fit-init : goal.loop-fit-init
loop-fit-init c = flags_start c.args.stock.now.is_table

pub bounds-flags-first : goal.bounds-flags-first
bounds-flags-first c =
    omega (arith, c.numbers-first.ensures.first, c.loop-fit.invariant.long, fit_named c.args.stock.now.is_table c.loop-fit.fit-index (omega arith))

pub bounds-flags-second : goal.bounds-flags-second
bounds-flags-second c =
    rw length-set (omega (arith, c.numbers-first.ensures.second, c.loop-fit.invariant.long, fit_named c.args.stock.now.is_table c.loop-fit.fit-index (omega arith)))

pub loop-fit-preserved : goal.loop-fit-preserved
loop-fit-preserved c =
    rw (c.numbers-first.ensures.first, c.numbers-first.ensures.second) (flags_next c.args.stock.now.is_table c.loop-fit.invariant (omega arith))

pub push-requires : goal.push-requires
push-requires c =
    let s = c.in-Some.ensures.steps in
    let S = c.loop-fit.invariant in
    let inv = rw (c.into_iter-flag-iterator.ensures.into_iter_gives, c.zip-flag-items.ensures.first, c.iter.ensures.rest) at c.loop-flag.invariant in
    let b = c.new-told.ensures in
    let size = marks_size c.loop-fit.flags c.args.reached.now (omega (arith, S.long, c.requires.marks_len, c.requires.marks_in_bounds)) in
    let room = extending_room inv.1 (omega (arith, b.empty, ap length b.slice_is, S.long, c.requires.marks_len)) in
    omega (arith, ap length (marks_next c.in-Some.nodes.now _ s.0 s.1.1.0 (s.1.1.1 ∙ inv.0) (c.from.ensures ∙ c.mark_of.ensures)))

pub loop-flag-preserved : goal.loop-flag-preserved
loop-flag-preserved c =
    let s = c.in-Some.ensures.steps in
    let inv = c.loop-flag.invariant in
    (s.1.0 ∙ inv.0, extending_next inv.1 _ (marks_next c.in-Some.nodes.now _ s.0 s.1.1.0 (s.1.1.1 ∙ inv.0) (c.from.ensures ∙ c.mark_of.ensures)) c.push.ensures)

pub returns : goal.returns
returns c =
    let inv = rw (c.into_iter-flag-iterator.ensures.into_iter_gives, c.zip-flag-items.ensures.first, c.iter.ensures.rest) at c.loop-flag.invariant in
    marks_fill c.args.reached.now c.loop-fit.invariant (omega arith) c.requires.marks_len c.requires.marks_in_bounds c.new-told.ensures
    (extending_end inv.1 (marks_none _ _ (⊎_elim (λ r. inl r.1.0) (λ r. inr (omega (arith, r.1.1.0, inv.0))) c.in-None.ensures.steps))) (search rules)
