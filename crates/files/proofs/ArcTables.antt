-- A graph that was read, as the search takes it.
--   held_graph     the graph that is lent is the file's
--   held_table     and it is within what the questions settle
use Rattle.std.proofs.Common.{◌≡◌, subst, sym, take, List, ℕ}
use Rattle.arcs.specs.Table.{graph, ArcTable}
use Rattle.skew.specs.Graph.{Graph}
use Rattle.skew.specs.declared.Arc.{Arc}
use Rattle.files.specs.GraphFile.{graph_in, graph_fault}
use Rattle.files.specs.Readers.{GraphHeld}
use Rattle.files.proofs.SelfArcs.{accepted_is}
use Rattle.files.proofs.AcceptedFiles.{accepted_graph, graph_few}

graph_same : {p q s t : ℕ} {xs ys : List Arc} → p ≡ q → s ≡ t → xs ≡ ys → graph p s xs ≡ graph q t ys
graph_same e h k = cc

module _ {f : List ℕ} {xs : List Arc} {p s n : ℕ} (g : GraphHeld f xs p s n) where
  pub held_graph : graph p s (take n xs) ≡ graph_in f
  held_graph = graph_same g.pairs_are g.source_is g.arcs_are

  pub held_table : graph_fault f ≡ 0 → ArcTable (graph p s (take n xs))
  held_table e =
      let basic = ((accepted_is f).0 e).0 in
      let few = graph_few f basic in
      subst (λ (x : Graph). ArcTable x) (sym held_graph)
      (record { well_formed = accepted_graph f basic; pairs_few = few.0; arcs_few = few.1 })
