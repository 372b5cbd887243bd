-- `frames::shape::header_of` meets its contract: no first line, another first line, and the header.
use mathlib.Core.Path.{◌≡◌, refl, sym, ◌∙◌}
use mathlib.Core.Bool.{true}
use Prim.Native.Nat.{◌≤◌}
use lib.ListN.{length}
use borrow.Author.Tests.{leb-true, eqb-true}
use Rattle.std.proofs.lemmas.Bool.{not-false}
use Rattle.formats.specs.Limits.{file_most}
use Rattle.frames.specs.Frames.{is_whole_file}
use Rattle.frames.proofs.Questions.{was_yes, was_no, passed_on}
use Rattle.frames.proofs.HeaderFrames.{answer_empty, answer_other, answer_none}
use Rattle.frames.proofs.shape.header_of.Goals as goal
use Rattle.frames.proofs.shape.header_of.Goals.{In_ok-ask-2}

short : (c : In_ok-ask-2) → length c.args.f.now ≤ file_most
short c = leb-true _ _ (was_yes _ c.in_ok-ask.ensures refl)

is_whole : (c : In_ok-ask-2) → is_whole_file c.args.f.now ≡ true
is_whole c = sym c.whole.ensures ∙ was_yes _ c.in_ok-ask-2.ensures refl

pub returns-in_err-ask-3 : goal.returns-in_err-ask-3
returns-in_err-ask-3 c =
    let p = (goal.at.returns-in_err-ask-3 c).In_ok-ask-2 in
    let n = was_no _ c.in_err-ask-3.ensures in
    rw (passed_on c.from_residual-in_err-ask-3.ensures, n.1) (answer_empty _ _ (short p) (is_whole p) (eqb-true _ _ (sym c.is_empty.ensures ∙ not-false _ n.0)))

pub returns-in_err-ask-4 : goal.returns-in_err-ask-4
returns-in_err-ask-4 c =
    let p = (goal.at.returns-in_err-ask-4 c).In_ok-ask-2 in
    let n = was_no _ c.in_err-ask-4.ensures in
    rw (passed_on c.from_residual-in_err-ask-4.ensures, n.1)
    (answer_other _ _ (short p) (is_whole p) _ _ c.line_at-line.ensures.1 (rw c.line_at-line.ensures.0 at (sym c.is_frame.ensures ∙ n.0)))

pub returns : goal.returns
returns c =
    let p = (goal.at.returns c).In_ok-ask-2 in
    answer_none _ _ (short p) (is_whole p) _ _ c.line_at-line.ensures.1
    (rw c.line_at-line.ensures.0 at (sym c.is_frame.ensures ∙ was_yes _ c.in_ok-ask-4.ensures refl))
