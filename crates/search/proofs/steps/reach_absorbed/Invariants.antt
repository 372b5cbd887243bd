-- The births gone through are mapped.
use Rattle.counting.specs.Loops.{Mapped}
use Rattle.search.specs.Steps.{births_after}
use Rattle.search.proofs.steps.reach_absorbed.Given as goal

abbrev pub invariant-loop-v : goal.invariant-loop-v
invariant-loop-v l = Mapped (births_after l.base l.mark l.clock) l.initial.birth l.birth l.v
