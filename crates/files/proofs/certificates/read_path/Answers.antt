-- `files::certificates::read_path` meets its contract: one law for each way a path's questions end.
use Rattle.counting.specs.Pairs.{number_of}
use Rattle.frames.proofs.Questions.{passed_on}
use Rattle.files.proofs.CertificateFiles.{path_shape, path_eight, path_refused, path_room, path_read, path_nine}
use Rattle.files.proofs.certificates.read_path.Goals as goal

pub returns-in_err-path : goal.returns-in_err-path
returns-in_err-path c = rw (passed_on c.from_residual.ensures) (path_refused _ (path_shape _ c.in_err-path.ensures))

pub returns-in_err-ask : goal.returns-in_err-ask
returns-in_err-ask c = rw (passed_on c.from_residual-in_err-ask.ensures) (path_refused _ (path_eight c.in_ok-path.ensures _ c.in_err-ask.ensures))

pub store-requires : goal.store-requires
store-requires c = path_room c.in_ok-path.ensures c.in_ok-ask.ensures _ c.requires

pub returns-in_err-ask-2 : goal.returns-in_err-ask-2
returns-in_err-ask-2 c =
    rw (passed_on c.from_residual-in_err-ask-2.ensures)
    (path_nine c.in_ok-path.ensures c.in_ok-ask.ensures (c.store.ensures.stored number_of (λ x y e. e)) c.are_below.ensures _ c.in_err-ask-2.ensures)

pub returns : goal.returns
returns c = path_read c.in_ok-path.ensures c.in_ok-ask.ensures (c.store.ensures.stored number_of (λ x y e. e)) c.are_below.ensures c.in_ok-ask-2.ensures
