-- A graph as a caller lends it: mate pairs, the source, and the arcs.
--   graph n s xs      the graph of the theory
--   Covers xs n       each end of each arc is below n
--   ArcTable g        what the questions put to a graph settle: a well-formed graph within the limits of document 01
use Rattle.std.specs.Prelude.{List, ℕ, ◌≤◌, ◌<◌, length, get_or}
use Rattle.formats.specs.Limits.{arcs_most, mate_pairs_most}
use Rattle.skew.specs.declared.Arc.{Arc}
use Rattle.skew.specs.Graph.{Graph, no_arc}
use Rattle.skew.specs.Paths.{WellFormed}

abbrev pub graph : (pairs source : ℕ) → List Arc → Graph
graph n s xs = record { pairs = n; source = s; arcs = xs }

pub record Covers (xs : List Arc) (n : ℕ) : Type 0 where
  pub tails : (i : ℕ) → i < length xs → (get_or xs i no_arc).tail < n
  pub heads : (i : ℕ) → i < length xs → (get_or xs i no_arc).head < n

pub record ArcTable (g : Graph) : Type 0 where
  pub well_formed : WellFormed g
  pub pairs_few : g.pairs ≤ mate_pairs_most
  pub arcs_few : length g.arcs ≤ arcs_most
