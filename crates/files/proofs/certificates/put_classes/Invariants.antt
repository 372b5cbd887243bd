-- `files::certificates::put_classes` meets its contract: with the classes that are left, all of them are stored.
use Rattle.std.proofs.Common.{drop}
use Rattle.counting.specs.Pairs.{seconds_of}
use Rattle.counting.specs.SliceVecs.{Extending}
use Rattle.files.proofs.certificates.put_classes.Given as goal

abbrev pub invariant-loop-line : goal.invariant-loop-line
invariant-loop-line l = Extending l.initial.stored (seconds_of l.lines) l.stored (seconds_of (drop l.line-index l.lines))
