-- `frames::lines::line_at` meets its contract. The loop's invariant: no line end stands from `at` up to `end`. The measure is what is
-- left of the file.
use Prim.Native.Nat.{◌-◌}
use lib.ListN.{length}
use Rattle.frames.proofs.LinePlaces.{SameLine}
use Rattle.frames.proofs.lines.line_at.Given as goal

abbrev pub invariant-loop-end : goal.invariant-loop-end
invariant-loop-end l = SameLine l.f l.at l.end

abbrev pub decreases-loop-end : goal.decreases-loop-end
decreases-loop-end l = length l.f - l.end
