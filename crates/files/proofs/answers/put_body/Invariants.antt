-- `files::answers::put_body` meets its contract: with the lines that are left, all are written, whichever lines the calls make.
use Rattle.std.proofs.Common.{ℕ, List, ◌+◌, ◌*◌, ◌-◌, ◌≤◌, length, drop}
use Rattle.formats.specs.Kinds.{kind_number}
use Rattle.counting.specs.SliceVecs.{Extending}
use Rattle.files.specs.Answers.{each_line, MakesLines}
use Rattle.files.proofs.answers.put_body.Given as goal

abbrev pub invariant-loop-i : goal.invariant-loop-i
invariant-loop-i g l =
    (l.out.len + (7 * (length l.values - l.i) + 7) ≤ length l.out.slice.now) ×
    ((line : ℕ → g.row.T.Denot → List ℕ) → MakesLines g.F.Fn l.fields (kind_number l.layout.first) line →
    Extending l.initial.out (each_line line 0 l.values) l.out (each_line line l.i (drop l.i l.values)))
