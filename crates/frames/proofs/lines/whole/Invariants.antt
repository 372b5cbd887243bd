-- `frames::lines::whole` meets its contract. The outer loop's invariant: the answer for the file is the answer for what is left from `at`
-- on. The inner loop's: digits of one line stand from `at` up to `end`. The measures are what is left of the file.
use mathlib.Core.Path.{◌≡◌}
use Prim.Native.Nat.{◌-◌, ◌≤◌}
use lib.ListN.{length, drop}
use Rattle.frames.specs.Frames.{is_whole_file}
use Rattle.frames.proofs.WholeFiles.{DigitsUpTo}
use Rattle.frames.proofs.lines.whole.Given as goal

abbrev pub invariant-loop-end : goal.invariant-loop-end
invariant-loop-end l = DigitsUpTo l.f l.at l.end

abbrev pub decreases-loop-end : goal.decreases-loop-end
decreases-loop-end l = length l.f - l.end

abbrev pub invariant-lines : goal.invariant-lines
invariant-lines l = (l.at ≤ length l.f) × (is_whole_file l.f ≡ is_whole_file (drop l.at l.f))

abbrev pub decreases-lines : goal.decreases-lines
decreases-lines l = length l.f - l.at
