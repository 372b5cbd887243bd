-- `files::certificates::read_barrier` meets its contract: one law for each way a barrier's questions end.
use Rattle.frames.proofs.Questions.{passed_on}
use Rattle.files.proofs.CertificateFiles.{barrier_shape, barrier_eight, barrier_refused, barrier_room, barrier_read, barrier_nine}
use Rattle.files.proofs.certificates.read_barrier.Goals as goal

pub returns-in_err-barrier : goal.returns-in_err-barrier
returns-in_err-barrier c = rw (passed_on c.from_residual.ensures) (barrier_refused _ (barrier_shape _ _ c.in_err-barrier.ensures))

pub returns-in_err-ask : goal.returns-in_err-ask
returns-in_err-ask c =
    rw (passed_on c.from_residual-in_err-ask.ensures) (barrier_refused _ (barrier_eight c.in_ok-barrier.ensures _ _ c.in_err-ask.ensures))

pub store-requires : goal.store-requires
store-requires c = barrier_room c.in_ok-barrier.ensures _ c.in_ok-ask.ensures _ c.requires.0

pub returns-in_err-ask-2 : goal.returns-in_err-ask-2
returns-in_err-ask-2 c =
    rw (passed_on c.from_residual-in_err-ask-2.ensures)
    (barrier_nine c.in_ok-barrier.ensures _ c.in_ok-ask.ensures (c.store.ensures.stored (λ x. x) (λ x y e. e)) c.in_order.ensures c.put_classes.ensures _
    c.in_err-ask-2.ensures)

pub returns : goal.returns
returns c =
    barrier_read c.in_ok-barrier.ensures _ c.in_ok-ask.ensures (c.store.ensures.stored (λ x. x) (λ x y e. e)) c.in_order.ensures c.put_classes.ensures
    c.in_ok-ask-2.ensures
