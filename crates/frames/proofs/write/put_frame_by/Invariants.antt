-- The invariant: the kind and the fields passed are written.
use Rattle.frames.proofs.Writes.{FieldsWritten}
use Rattle.frames.proofs.write.put_frame_by.Given as goal

abbrev pub invariant-loop-field : goal.invariant-loop-field
invariant-loop-field l = FieldsWritten l.fn.out l.fn.kind l.fields l.field-index l.out
