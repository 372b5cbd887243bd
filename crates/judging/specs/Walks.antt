-- A run of arcs judged arc by arc, with the nodes seen and the arcs used so far (document 01, "The graph").
--   wanted_from g at seen used arcs             from a node on, the arcs lead to the source's mate, and meet no node seen and no mate of an arc used
--   ArcsLent source xs                          arcs that a path may be judged by: few, the source a byte
--   PathLent source xs path                     such arcs, and arc numbers of them
--   Marks table numbers                         the table is set at these numbers, and only there
--   Walking source xs path k at seen used       k arcs of the path judged: a node reached, the nodes seen and the arcs used marked in two tables
use Rattle.std.specs.Prelude.{◌≡◌, Bool, false, ◌&&◌, not, List, [], ◌∷◌, ℕ, ◌≤◌, ◌<◌, ltb, eqb, length, get_or, drop}
use Rattle.formats.specs.Limits.{arcs_most}
use Rattle.counting.specs.Tests.{among}
use Rattle.skew.specs.Graph.{Graph, mate, is_wanted}
use Rattle.skew.specs.declared.Arc.{Arc}
use Rattle.skew.specs.Paths.{tail, head}
use Rattle.arcs.specs.Table.{graph}

unfoldable pub wanted_from : Graph → (at : ℕ) → (seen used arcs : List ℕ) → Bool
wanted_from g at seen used [] = eqb at (mate g.source)
wanted_from g at seen used (i ∷ is) =
    ltb i (length g.arcs) && eqb (tail g i) at && not (among (head g i) seen) && not (among (mate i) used) &&
    wanted_from g (head g i) (head g i ∷ seen) (i ∷ used) is

pub record ArcsLent (source : ℕ) (xs : List Arc) : Type 0 where
  pub source_byte : source < 256
  pub arcs_few : length xs ≤ arcs_most

pub record PathLent (source : ℕ) (xs : List Arc) (path : List ℕ) : Type 0 where
  pub arcs : ArcsLent source xs
  pub inside : (k : ℕ) → k < length path → get_or path k 0 < length xs

abbrev pub Marks : (table : List Bool) (numbers : List ℕ) → Type 0
Marks table numbers = (x : ℕ) → get_or table x false ≡ among x numbers

-- of the graph with any number of mate pairs: a path is judged without it
pub record Walking (source : ℕ) (xs : List Arc) (path : List ℕ) (k at : ℕ) (seen used : List Bool) : Type 0 where
  pub lent : PathLent source xs path
  pub nodes : List ℕ
  pub arcs : List ℕ
  pub nodes_marked : Marks seen nodes
  pub arcs_marked : Marks used arcs
  pub seen_long : length seen ≡ 256
  pub used_long : length used ≡ arcs_most
  pub rest : (n : ℕ) → is_wanted (graph n source xs) path ≡ wanted_from (graph n source xs) at nodes arcs (drop k path)
