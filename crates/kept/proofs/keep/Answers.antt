-- `kept::keep` meets its contract: refused by the plan's questions, or its pairs are stored.
use mathlib.Core.Path.{refl, sym}
use Rattle.std.proofs.lemmas.Result.{err_from_is_err_and}
use lib.Seq.{length-take-le}
use Rattle.frames.proofs.Questions.{refusal_some}
use Rattle.files.proofs.PlanFiles.{plan_held}
use Rattle.kept.proofs.Calls.{plan_faulty, plan_small, plan_stored}
use Rattle.kept.proofs.keep.Goals as goal

pub returns-in_err-count : goal.returns-in_err-count
returns-in_err-count c =
    let p = err_from_is_err_and c.from_residual.result c.from_residual.ensures.1 in
    let refused = refusal_some c.in_err-count.field-0.0 in
    rw (p.1, p.2) (plan_faulty c.args.state.now c.args.name c.cameras_in.ensures c.lend_fits.ensures c.in_err-count.ensures refused)

pub slice_bounds-store-end : goal.slice_bounds-store-end
slice_bounds-store-end c = sym (length-take-le _ _ (plan_held c.in_ok-count.ensures refl).room)

pub store-requires : goal.store-requires
store-requires c = plan_small c.args.state.now c.args.name c.cameras_in.ensures c.lend_fits.ensures c.in_ok-count.ensures refl

pub returns : goal.returns
returns c = plan_stored c.args.state.now c.args.name c.cameras_in.ensures c.lend_fits.ensures c.in_ok-count.ensures refl c.store.ensures
