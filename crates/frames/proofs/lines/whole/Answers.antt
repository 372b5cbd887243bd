use mathlib.Core.Path.{sym, ◌∙◌}
use Prim.Native.Nat.{◌+◌}
use native.Mathlib.Omega.{arith}
use Rattle.frames.specs.Lines.{LineAt}
use Rattle.frames.proofs.LinePlaces.{part_tail, same_ended}
use Rattle.frames.proofs.WholeFiles.{digits_start, digits_next, whole_next, fails_other, fails_empty, fails_odd, whole_end, whole_fails}
use Rattle.frames.proofs.lines.whole.Goals as goal
use Rattle.frames.proofs.lines.whole.Goals.{In-Some, else-lines-test, then-lines-test+else-end-f+in_default, else-end-f-via-then-end-f+else-is_digit, else-end-f-via-else-end-f, then-lines-test+else-end-f+in-Some+then-end-at, then-end-at-via-then-end-at, then-end-at-via-else-end-at+then-end-at-ne0}

-- a line whose digits end is ended
ended : (c : In-Some) → LineAt c.args.f.now c.lines.at c.loop-end.end (c.loop-end.end + c.in-Some.n)
ended c = let e = rw part_tail at c.in-Some.ensures in same_ended c.loop-end.invariant.line c.lines-test.true e.0 e.1

pub loop-end-init : goal.loop-end-init
loop-end-init c = digits_start _ _ c.lines-test.true

pub loop-end-preserved : goal.loop-end-preserved
loop-end-preserved c = digits_next c.loop-end.invariant c.if-end-f.true (sym c.is_digit.ensures ∙ c.if-is_digit.true)

pub overflow_add-at : goal.overflow_add-at
overflow_add-at c = omega (arith, ended (goal.at.overflow_add-at c).In-Some)

pub lines-preserved : goal.lines-preserved
lines-preserved c =
    let h = ended (goal.at.lines-preserved c).In-Some in
    (h.high, c.lines.invariant.1 ∙ whole_next h (omega (arith, c.in-Some.ensures)) c.if-end-at.false c.if-end-at-ne0.false c.loop-end.invariant.digits)

pub returns : goal.returns
returns c =
    let f = c.args.f.now in
    let at = c.lines.at in
    let inv = c.lines.invariant.1 in
    elim c.lines-test.branch [
      | else-lines-test w ↦ whole_end f at (omega arith) inv
      | then-lines-test+else-end-f+in_default w ↦
          whole_fails f at w.lines-test.true inv
          (fails_other w.lines-test.true w.loop-end.invariant.line
          (elim w.else-end-f.branch [
            | else-end-f-via-then-end-f+else-is_digit w' ↦ λ i. sym w'.is_digit.ensures ∙ w'.if-is_digit.false
            | else-end-f-via-else-end-f w' ↦ λ i. absurd (omega (arith, w'.if-end-f.false))
          ]) (rw part_tail at w.in_default.ensures))
      | then-lines-test+else-end-f+in-Some+then-end-at w ↦
          let e = rw part_tail at w.in-Some.ensures in
          let h = same_ended w.loop-end.invariant.line w.lines-test.true e.0 e.1 in
          whole_fails f at w.lines-test.true inv
          (elim w.then-end-at.branch [
            | then-end-at-via-then-end-at w' ↦ fails_empty h w'.if-end-at.true
            | then-end-at-via-else-end-at+then-end-at-ne0 w' ↦ fails_odd h w'.if-end-at-ne0.true
          ])
    ]
