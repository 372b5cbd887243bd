-- A graph as code is lent it.
--   graph_of G     the graph of the theory that it stands for
use Rattle.skew.specs.Graph.{Graph}
use Rattle.arcs.specs.Table.{graph}
use Rattle.arcs.specs.declared.graph.Graph as lent

abbrev pub graph_of : lent.Graph → Graph
graph_of G = graph G.pairs G.source G.arcs.now
