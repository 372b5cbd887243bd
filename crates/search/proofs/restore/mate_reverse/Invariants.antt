-- The arcs gone through are their mates.
use Rattle.std.proofs.Common.{◌≡◌, ◌++◌, map, take, drop}
use Rattle.skew.specs.Graph.{mate}
use Rattle.search.proofs.restore.mate_reverse.Given as goal

abbrev pub invariant-loop-arc : goal.invariant-loop-arc
invariant-loop-arc l = l.part ≡ map mate (take l.arc-index l.initial.part) ++ drop l.arc-index l.initial.part
