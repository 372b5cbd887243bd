-- The nodes that are taken are scanned.
use Prim.Native.Nat.{◌*◌, ◌-◌}
use mathlib.Core.Path.{◌≡◌}
use Rattle.skew.specs.Graph.{mate}
use Rattle.arcs.specs.Lent.{graph_of}
use Rattle.search.specs.Lent.{tables_of}
use Rattle.search.specs.Queue.{Searching}
use Rattle.search.proofs.state.State.search.Given as goal

abbrev pub invariant-loop-self : goal.invariant-loop-self
invariant-loop-self l = Searching (graph_of l.graph) (tables_of l.self) × (l.goal ≡ mate l.graph.source)

abbrev pub decreases-loop-self : goal.decreases-loop-self
decreases-loop-self l = 2 * l.graph.pairs - l.self.queue.taken
