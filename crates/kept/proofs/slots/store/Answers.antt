-- `kept::slots::store` meets its contract: refused with 19, or a slot is left for the name.
use mathlib.Core.Path.{◌≡◌, sym, ◌∙◌}
use Rattle.std.proofs.lemmas.Result.{err_from_is_err_and}
use Rattle.frames.specs.Frames.{unless}
use Rattle.frames.proofs.Questions.{refusal_some}
use Rattle.kept.specs.State.{place_fault}
use Rattle.kept.specs.Block.{state_of}
use Rattle.kept.proofs.Fillings.{place_left, stored_none, stored_in}
use Rattle.kept.proofs.Names.{place_asked}
use Rattle.kept.proofs.slots.store.Goals as goal
use Rattle.kept.proofs.slots.store.Goals.{After-ask, then-is_some, else-is_some}

asked : (c : After-ask) → unless c.if-is_some.ask 19 ≡ place_fault (state_of c.args.state.now) c.args.name
asked c =
    let place = place_asked c.args.state.now c.args.name c.find.result c.find.ensures in
    elim c.if-is_some.branch [
      | then-is_some w ↦ rw (w.ask-is, c.is_some.ensures, place, sym c.is_some.ensures ∙ w.if-is_some.true)
      | else-is_some w ↦ rw (w.ask-is, w.kept_in.ensures, place, sym c.is_some.ensures ∙ w.if-is_some.false)
    ]

pub returns-in_err-ask : goal.returns-in_err-ask
returns-in_err-ask c =
    let p = err_from_is_err_and c.from_residual.result c.from_residual.ensures.1 in
    let e = asked (goal.at.returns-in_err-ask c).After-ask in
    rw (p.1, p.2) (stored_none c.args.state.now c.args.name (c.in_err-ask.ensures ∙ e) (refusal_some c.in_err-ask.field-0.0))

pub invariant_of-to : goal.invariant_of-to
invariant_of-to c =
    let none = sym (c.in_ok-ask.ensures ∙ asked (goal.at.invariant_of-to c).After-ask) in
    record { known = place_left c.args.state.now c.args.name none c.close_up.ensures }

pub returns : goal.returns
returns c =
    let none = sym (c.in_ok-ask.ensures ∙ asked (goal.at.returns c).After-ask) in
    stored_in c.args.state.now c.args.name none c.close_up.ensures c.put_pairs.ensures c.put_kept.ensures
