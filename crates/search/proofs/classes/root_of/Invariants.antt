-- From bud to bud towards the root, the birth number falling.
use lib.ListN.{get_or}
use Rattle.arcs.specs.Lent.{graph_of}
use Rattle.search.specs.Lent.{labels_of}
use Rattle.search.proofs.Roots.{RootAscent}
use Rattle.search.proofs.classes.root_of.Given as goal

abbrev pub invariant-loop-v : goal.invariant-loop-v
invariant-loop-v l = RootAscent (graph_of l.graph) (labels_of l.labels) l.v l.b

abbrev pub decreases-loop-v : goal.decreases-loop-v
decreases-loop-v l = get_or l.labels.birth.now l.b 0
