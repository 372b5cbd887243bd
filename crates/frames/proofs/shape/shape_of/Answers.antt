-- `frames::shape::shape_of` meets its contract: a refusal of the header, one of the body, and neither.
use mathlib.Core.Path.{refl}
use mathlib.Core.Bool.{true}
use Rattle.frames.proofs.Questions.{refusal_some, passed_on}
use Rattle.frames.proofs.HeaderFrames.{second_line}
use Rattle.frames.proofs.ShapeFaults.{shape_header, shape_body, shape_refused, answer_shape}
use Rattle.frames.proofs.shape.shape_of.Goals as goal

pub returns-in_err-next : goal.returns-in_err-next
returns-in_err-next c =
    let e = refusal_some c.in_err-next.field-0.0 in
    rw (passed_on c.from_residual.ensures) (shape_refused (shape_header c.in_err-next.ensures true e) e)

pub body_of-requires : goal.body_of-requires
body_of-requires c = (second_line c.in_ok-next.ensures refl).high

pub returns-in_err-body : goal.returns-in_err-body
returns-in_err-body c =
    rw (passed_on c.from_residual-in_err-body.ensures)
    (shape_refused (shape_body c.in_ok-next.ensures true refl refl c.in_err-body.ensures) (refusal_some c.in_err-body.field-0.0))

pub returns : goal.returns
returns c = answer_shape c.in_ok-next.ensures refl c.in_ok-body.ensures refl
