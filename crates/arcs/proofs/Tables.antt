-- The ends of the arcs that are lent.
--   table_covers        each end of each arc is below the number of nodes
use Rattle.std.proofs.Common.{◌*◌}
use Rattle.skew.specs.Graph.{Graph}
use Rattle.skew.proofs.Paths.{tail_node}
use Rattle.arcs.specs.Table.{Covers, ArcTable}

pub table_covers : {g : Graph} → ArcTable g → Covers g.arcs (2 * g.pairs)
table_covers {g} T = record { tails = tail_node g T.well_formed; heads = T.well_formed.head_node }
