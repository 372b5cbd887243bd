-- `frames::shape::ask_end` meets its contract.
use mathlib.Core.Path.{refl, sym, ◌∙◌}
use Rattle.frames.proofs.Questions.{was_yes}
use Rattle.frames.proofs.BodyFrames.{end_number}
use Rattle.frames.proofs.shape.ask_end.Goals as goal

pub returns : goal.returns
returns c =
    let e = sym c.is_frame.ensures ∙ was_yes _ c.in_ok-ask.ensures refl in
    rw (e, end_number _ _ _ _ _ c.requires.1 e c.number_at.ensures.is) c.ask-2.ensures
