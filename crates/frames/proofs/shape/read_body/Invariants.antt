-- `frames::shape::read_body` meets its contract. The loop's invariant: what is left answers as the whole.
use mathlib.Core.Path.{◌≡◌}
use Rattle.frames.proofs.BodyFrames.{BodyLeft}
use Rattle.frames.proofs.shape.read_body.Given as goal

abbrev pub invariant-loop-line : goal.invariant-loop-line
invariant-loop-line l = (l.line-iterator.file.now ≡ l.g) × BodyLeft l.layout l.g l.line-iterator.at l.count l.firsts l.kind
