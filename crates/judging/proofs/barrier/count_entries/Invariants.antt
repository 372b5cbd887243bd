-- The counters hold the entries of the arcs before this one.
use Rattle.judging.specs.Barriers.{Counting}
use Rattle.judging.proofs.barrier.count_entries.Given as goal

abbrev pub invariant-loop-arc : goal.invariant-loop-arc
invariant-loop-arc l = Counting l.classes l.arcs l.entries l.arc-index
