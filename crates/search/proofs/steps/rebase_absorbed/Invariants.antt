-- The bases gone through are mapped.
use Rattle.counting.specs.Loops.{Mapped}
use Rattle.search.specs.Steps.{bases_after}
use Rattle.search.proofs.steps.rebase_absorbed.Given as goal

abbrev pub invariant-loop-b : goal.invariant-loop-b
invariant-loop-b l = Mapped (bases_after l.mark l.to) l.initial.base l.base l.b-index
