-- An ascent, and the births and bases mapped after it, are the bud step.
use Rattle.std.proofs.Common.{false}
use mathlib.Core.Path.{sym}
use Rattle.search.proofs.States.{cleared}
use Rattle.search.proofs.BudSteps.{bud_stepped, bud_stepped_old}
use Rattle.search.proofs.steps.Labels.bud_step.Goals as goal
use Rattle.search.proofs.steps.Labels.bud_step.Goals.{then-not-is_reached, else-not-is_reached}

pub returns : goal.returns
returns c =
    let B = c.requires.bridging in
    let A = c.ascend-d.ensures.ascended _ B in
    let R = c.reach_absorbed.ensures in
    let S = c.rebase_absorbed.ensures in
    let e = c.mate_of-m.ensures in
    record {
      stepped =
          elim c.if-not-is_reached.branch [
            | then-not-is_reached w ↦ rw w.self-is (bud_stepped B A R S e (sym w.if-not-is_reached.ensures))
            | else-not-is_reached w ↦ rw w.self-is (bud_stepped_old B A R S e (sym w.if-not-is_reached.ensures))
          ];
      cleared = rw (← A.births_same, c.ascend-d.ensures.fit.marks_long, c.fill.ensures.after (λ y h. h)) (cleared false _);
    }
