use mathlib.Core.Path.{refl, sym, ◌∙◌}
use Prim.Native.Nat.{◌+◌}
use native.Mathlib.Omega.{arith}
use denote.Enum.Bare.{same_true, same_false}
use Rattle.formats.specs.contracts.kinds.Kind.{the_type}
use Rattle.frames.specs.Lines.{LineAt}
use Rattle.frames.proofs.LinePlaces.{line_taken, file_kept}
use Rattle.frames.proofs.Questions.{was_yes, was_no, passed_on}
use Rattle.frames.proofs.BodyFrames.{BodyLeft, firsts_past, left_next, left_turn, left_first, left_second, left_end, left_refused, left_fails, left_none}
use Rattle.frames.proofs.shape.read_body.Goals as goal
use Rattle.frames.proofs.shape.read_body.Goals.{In-Some, Joined-not-is_frame, then-not-is_frame+in_ok-ask, else-not-is_frame}

-- the line that is taken, and what is left from it on
line : (c : In-Some) → let l = c.in-Some.line in LineAt c.args.g.now l.at l.end l.next
line c = line_taken c.loop-line.invariant.0 c.in-Some.ensures.steps

left : (c : In-Some) → BodyLeft c.args.layout c.args.g.now c.in-Some.line.at c.loop-line.count c.loop-line.firsts c.loop-line.kind
left c = rw c.in-Some.ensures.steps.0 c.loop-line.invariant.1

-- past a body line, whichever kind it has
next_line : (c : Joined-not-is_frame) → let kind = c.if-not-is_frame.kind in
    BodyLeft c.args.layout c.args.g.now c.next.new.self.at (c.loop-line.count + 1) (firsts_past c.args.layout kind c.loop-line.firsts) kind
next_line c =
    let s = (goal.at.Joined-not-is_frame c).In-Some in
    let framed = sym c.is_frame.ensures in
    rw c.in-Some.ensures.steps.2
    (elim c.if-not-is_frame.branch [
      | then-not-is_frame+in_ok-ask w ↦
          rw (w.kind-is, c.unwrap_or-second.ensures)
          (left_turn (left s) (line s) (omega (arith, line s)) (framed ∙ w.if-not-is_frame.true)
          (rw c.unwrap_or-second.ensures at (sym w.is_frame-then-not-is_frame.ensures ∙ was_yes _ w.in_ok-ask.ensures refl)))
      | else-not-is_frame w ↦ rw w.kind-is (left_next (left s) (line s) (omega (arith, line s)) (framed ∙ w.if-not-is_frame.false))
    ])

pub returns-in_err-ask_end : goal.returns-in_err-ask_end
returns-in_err-ask_end c =
    let s = (goal.at.returns-in_err-ask_end c).In-Some in
    rw (passed_on c.from_residual.ensures) (left_refused (left s) (line s) _ c.if-line-g.true c.in_err-ask_end.ensures)

pub returns-then-line-g : goal.returns-then-line-g
returns-then-line-g c =
    let s = (goal.at.returns-then-line-g c).In-Some in left_end (left s) (line s) c.if-line-g.true c.in_ok-ask_end.ensures

pub returns-in_err-ask : goal.returns-in_err-ask
returns-in_err-ask c =
    let s = (goal.at.returns-in_err-ask c).In-Some in
    let n = was_no _ c.in_err-ask.ensures in
    rw (passed_on c.from_residual-in_err-ask.ensures, n.1)
    (left_fails (left s) (line s) (omega (arith, line s)) (sym c.is_frame.ensures ∙ c.if-not-is_frame.true)
    (rw c.unwrap_or-second.ensures at (sym c.is_frame-then-not-is_frame.ensures ∙ n.0)))

pub loop-line-preserved-then-eq : goal.loop-line-preserved-then-eq
loop-line-preserved-then-eq c = (
  file_kept c.loop-line.invariant.0 c.in-Some.ensures.steps,
  left_first c.loop-line.firsts (next_line (goal.at.loop-line-preserved-then-eq c).Joined-not-is_frame)
      (same_true the_type tt _ _ (sym c.if-eq.ensures)),
)

pub loop-line-preserved : goal.loop-line-preserved
loop-line-preserved c = (
  file_kept c.loop-line.invariant.0 c.in-Some.ensures.steps,
  left_second c.loop-line.firsts (next_line (goal.at.loop-line-preserved c).Joined-not-is_frame) (same_false the_type _ _ (sym c.if-eq.ensures)),
)

pub returns : goal.returns
returns c = left_none c.loop-line.invariant.1 (rw c.loop-line.invariant.0 at c.in-None.ensures.steps)
