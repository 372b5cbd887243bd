-- The classes of the nodes before v are told.
use Rattle.std.proofs.Common.{◌≡◌, ℕ, ◌<◌, get_or}
use Rattle.skew.specs.Graph.{class_of}
use Rattle.arcs.specs.Lent.{graph_of}
use Rattle.search.specs.Lent.{labels_of}
use Rattle.search.specs.ClassTable.{Numbering}
use Rattle.search.proofs.classes.fill_classes.Given as goal

abbrev pub invariant-loop-v : goal.invariant-loop-v
invariant-loop-v l =
    Numbering (graph_of l.graph) (labels_of l.labels) l.v l.parts ×
    ((u : ℕ) → u < l.v → get_or l.class u 0 ≡ class_of (graph_of l.graph) u)
