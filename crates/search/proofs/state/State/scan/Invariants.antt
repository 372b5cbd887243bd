-- The node's arcs below i are looked at.
use mathlib.Core.Path.{◌≡◌}
use Rattle.arcs.specs.Lent.{graph_of}
use Rattle.search.specs.Lent.{tables_of}
use Rattle.search.specs.Queue.{Scanned}
use Rattle.search.proofs.state.State.scan.Given as goal

abbrev pub invariant-loop-i : goal.invariant-loop-i
invariant-loop-i l = Scanned (graph_of l.graph) (tables_of l.self) l.x l.i × (l.self.queue.taken ≡ l.initial.self.queue.taken)
