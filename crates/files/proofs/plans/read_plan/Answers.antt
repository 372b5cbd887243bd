-- `files::plans::read_plan` meets its contract: one law for each way the questions end.
use Rattle.std.proofs.Common.{sym, length-take-le}
use Rattle.frames.proofs.Questions.{passed_on}
use Rattle.files.proofs.PlanFiles.{plan_refused, plan_shape_lem, plan_seven, plan_long, plan_room, plan_holds, plan_read, plan_nine}
use Rattle.files.proofs.plans.read_plan.Goals as goal

pub returns-in_err-plan : goal.returns-in_err-plan
returns-in_err-plan c = rw (passed_on c.from_residual.ensures) (plan_shape_lem _ c.in_err-plan.ensures)

pub number_at-requires-clause-inside : goal.number_at-requires-clause-inside
number_at-requires-clause-inside c = plan_long c.in_ok-plan.ensures

pub returns-in_err-ask : goal.returns-in_err-ask
returns-in_err-ask c =
    rw (passed_on c.from_residual-in_err-ask.ensures) (plan_refused _ (plan_seven c.in_ok-plan.ensures c.number_at.ensures _ c.in_err-ask.ensures))

pub store-requires : goal.store-requires
store-requires c = plan_room c.in_ok-plan.ensures c.number_at.ensures c.in_ok-ask.ensures _ c.requires

pub slice_bounds-ask_pairing-end : goal.slice_bounds-ask_pairing-end
slice_bounds-ask_pairing-end c = plan_holds c.in_ok-plan.ensures c.number_at.ensures c.in_ok-ask.ensures (c.store.ensures.stored (λ x. x) (λ x y e. e))

pub slice_bounds-ask_pairing-end-2 : goal.slice_bounds-ask_pairing-end-2
slice_bounds-ask_pairing-end-2 c =
    sym (length-take-le _ _ (plan_holds c.in_ok-plan.ensures c.number_at.ensures c.in_ok-ask.ensures (c.store.ensures.stored (λ x. x) (λ x y e. e))))

pub returns-in_err-ask_pairing : goal.returns-in_err-ask_pairing
returns-in_err-ask_pairing c =
    rw (passed_on c.from_residual-in_err-ask_pairing.ensures)
    (plan_nine c.in_ok-plan.ensures c.number_at.ensures c.in_ok-ask.ensures (c.store.ensures.stored (λ x. x) (λ x y e. e)) _ c.in_err-ask_pairing.ensures)

pub returns : goal.returns
returns c = plan_read c.in_ok-plan.ensures c.number_at.ensures c.in_ok-ask.ensures (c.store.ensures.stored (λ x. x) (λ x y e. e)) c.in_ok-ask_pairing.ensures
