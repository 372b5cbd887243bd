-- Connected parts of a set of nodes (document 000, section 2.1; document 01, "The barrier").
--   Adjacent g v w         an arc joins the two nodes, either way
--   PartClosed g ms vs     each member of ms that is adjacent to a node of vs is in vs
use Rattle.std.specs.Prelude.{◌≡◌, ◌⊎◌, List, ℕ, ◌<◌, length}
use Rattle.counting.specs.Lists.{In}
use Rattle.skew.specs.Graph.{Graph}
use Rattle.skew.specs.Paths.{tail, head}

unfoldable pub Adjacent : Graph → (one other : ℕ) → Type 0
Adjacent g v w = (i : ℕ) × (i < length g.arcs) × (((tail g i ≡ v) × (head g i ≡ w)) ⊎ ((tail g i ≡ w) × (head g i ≡ v)))

abbrev pub PartClosed : Graph → (members part : List ℕ) → Type 0
PartClosed g ms vs = (m u : ℕ) → In m ms → In u vs → Adjacent g m u → In m vs
