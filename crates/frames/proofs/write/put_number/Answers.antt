use Rattle.counting.proofs.SliceVecs.{extended_then}
use Rattle.frames.specs.Frames.{hex_bytes}
use Rattle.frames.proofs.TwoDigits.{two_digits}
use Rattle.frames.proofs.write.put_number.Goals as goal

pub returns : goal.returns
unfolding hex_bytes
returns c = let d = two_digits c.args.value in rw (d.0, d.1) at (extended_then c.push.ensures c.push-2.ensures)
