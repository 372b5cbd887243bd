-- The end with the later base goes up, so that the sum of the two birth numbers falls.
use Prim.Native.Nat.{◌+◌}
use lib.ListN.{get_or}
use Rattle.arcs.specs.Lent.{graph_of}
use Rattle.search.specs.Lent.{labels_of}
use Rattle.search.proofs.Ascents.{Ascending}
use Rattle.search.proofs.steps.Labels.ascend.Given as goal

abbrev pub invariant-loop-p : goal.invariant-loop-p
invariant-loop-p l = Ascending (graph_of l.graph) (labels_of l.initial.self) l.i l.i (labels_of l.self) l.mark l.p l.q

abbrev pub decreases-loop-p : goal.decreases-loop-p
decreases-loop-p l = get_or l.initial.self.birth.now l.p 0 + get_or l.initial.self.birth.now l.q 0
