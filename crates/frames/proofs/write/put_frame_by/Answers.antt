use native.Mathlib.Omega.{arith}
use Rattle.frames.proofs.Writes.{kind_written, frame_room, field_written, frame_written}
use Rattle.frames.proofs.write.put_frame_by.Goals as goal

pub loop-field-init : goal.loop-field-init
loop-field-init c = kind_written _ c.args.fields.now c.put_number.ensures

pub put_number-requires-in-loop-field : goal.put_number-requires-in-loop-field
put_number-requires-in-loop-field c = omega (arith, frame_room c.loop-field.invariant c.requires)

pub loop-field-preserved : goal.loop-field-preserved
loop-field-preserved c = field_written c.loop-field.invariant c.loop-field-test.true c.put_number-in-loop-field.ensures

pub push-requires : goal.push-requires
push-requires c = omega (arith, frame_room c.loop-field.invariant c.requires)

pub returns : goal.returns
returns c = frame_written c.loop-field.invariant c.loop-field-test.false c.push.ensures
