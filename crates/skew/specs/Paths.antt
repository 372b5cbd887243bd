-- Paths as types (document 000, section 1): what the tests of Graph say of them, and which graphs the theory is about.
--   tail g i, head g i       the ends of arc i
--   Joins g a v p            the arcs p lead from node a to node v
--   Unmated p                no arc of p stands in p with its mate
--   RegularPath g S a v p    p is a regular path from a to v with all nodes in the set S
--   MateClosed S             with a node its mate is in S
--   Disjoint S R             no node is in both
--   SkewSymmetric g          arcs come in pairs of mates
--   WellFormed g             skew-symmetric, each arc between nodes of the graph, the source a node
use Rattle.std.specs.Prelude.{◌≡◌, true, List, [], ◌∷◌, ℕ, ◌%◌, ◌<◌, length}
use Rattle.counting.specs.Lists.{In, Within, Distinct}
use Rattle.skew.specs.Graph.{Graph, mate, nodes, arc_at, mates_fit, nodes_along}

abbrev pub tail : Graph → (arc : ℕ) → ℕ
tail g i = (arc_at g i).tail

abbrev pub head : Graph → (arc : ℕ) → ℕ
head g i = (arc_at g i).head

abbrev pub Joins : Graph → (a v : ℕ) → List ℕ → Type 0
Joins g a v [] = a ≡ v
Joins g a v (i ∷ is) = (i < length g.arcs) × (tail g i ≡ a) × Joins g (head g i) v is

-- said of members, so that it passes through ++ and reverse_map at once
abbrev pub Unmated : List ℕ → Type 0
Unmated is = (i : ℕ) → In i is → In (mate i) is → ⊥

pub record RegularPath (g : Graph) (S : ℕ → Type 0) (a v : ℕ) (p : List ℕ) : Type 0 where
  pub joins : Joins g a v p
  pub within : Within S (nodes_along g a p)
  pub once : Distinct (nodes_along g a p)
  pub unmated : Unmated p

abbrev pub MateClosed : (ℕ → Type 0) → Type 0
MateClosed S = (v : ℕ) → S v → S (mate v)

abbrev pub Disjoint : (S R : ℕ → Type 0) → Type 0
Disjoint S R = (v : ℕ) → S v → R v → ⊥

pub record SkewSymmetric (g : Graph) : Type 0 where
  pub mates_fit_lem : mates_fit g.arcs ≡ true
  pub even : length g.arcs % 2 ≡ 0

pub record WellFormed (g : Graph) : Type 0 where
  pub symmetric : SkewSymmetric g
  pub head_node : (i : ℕ) → i < length g.arcs → head g i < nodes g
  pub source_node : g.source < nodes g
