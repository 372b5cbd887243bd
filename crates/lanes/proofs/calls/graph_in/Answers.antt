-- `lanes::calls::graph_in` meets its contract: a graph past its questions is within what they settle, and is the file's.
use Rattle.std.proofs.Common.{refl, sym}
use Rattle.files.proofs.GraphFiles.{graph_held}
use Rattle.files.proofs.ArcTables.{held_graph, held_table}
use Rattle.lanes.proofs.calls.graph_in.Goals as goal

pub invariant_of-result : goal.invariant_of-result
invariant_of-result c =
    let read = c.in_ok-numbers.ensures in record { is_table = held_table (graph_held read refl) (sym read.says) }

pub returns : goal.returns
returns c = let read = c.in_ok-numbers.ensures in (sym read.says, held_graph (graph_held read refl))
