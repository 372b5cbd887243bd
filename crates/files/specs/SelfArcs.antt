-- What is promised of graph files where an arc may lead from a node to itself (document 02, L5).
--   SelfArc g            some arc of g leads from a node to itself
--   self_arc_fault n     the refusal of a file with such an arc, where document 03's questions come to n: 16 where they pass all or fail 10, else n
--   OthersAsBefore       without such an arc the refusal is document 03's
--   SelfArcsRefused      with one, a file is refused, with that number
--   AcceptedIs           so a file is accepted exactly if document 03's questions accept it and no arc of its graph is such a one
--   SixteenIs            and 16 is the refusal exactly if some arc is, and document 03's questions pass all or fail 10
use Rattle.std.specs.Prelude.{◌≡◌, ◌↔◌, ◌⊎◌, ◌||◌, List, ℕ, ◌<◌, eqb, length}
use Rattle.counting.specs.Tests.{pick}
use Rattle.skew.specs.Graph.{Graph}
use Rattle.skew.specs.Paths.{tail, head}
use Rattle.files.specs.GraphFile.{graph_in, graph_fault, basic_graph_fault}

abbrev pub SelfArc : Graph → Type 0
SelfArc g = (i : ℕ) × (i < length g.arcs) × (tail g i ≡ head g i)

abbrev pub self_arc_fault : (basic : ℕ) → ℕ
self_arc_fault n = pick (eqb n 0 || eqb n 10) 16 n

abbrev pub OthersAsBefore : Type 0
OthersAsBefore = (f : List ℕ) → (SelfArc (graph_in f) → ⊥) → graph_fault f ≡ basic_graph_fault f

abbrev pub SelfArcsRefused : Type 0
SelfArcsRefused = (f : List ℕ) → SelfArc (graph_in f) → graph_fault f ≡ self_arc_fault (basic_graph_fault f)

abbrev pub AcceptedIs : Type 0
AcceptedIs = (f : List ℕ) → (graph_fault f ≡ 0) ↔ ((basic_graph_fault f ≡ 0) × (SelfArc (graph_in f) → ⊥))

abbrev pub SixteenIs : Type 0
SixteenIs =
    (f : List ℕ) → (graph_fault f ≡ 16) ↔ (SelfArc (graph_in f) × ((basic_graph_fault f ≡ 0) ⊎ (basic_graph_fault f ≡ 10)))
