-- `lanes::graph_calls::write_graph` meets its contract: a path or a barrier, as the search found.
use Rattle.std.proofs.Common.{◌∙◌}
use Rattle.lanes.proofs.GraphCalls.{path_written, barrier_written}
use Rattle.lanes.proofs.graph_calls.write_graph.Goals as goal

pub returns-in-Some : goal.returns-in-Some
returns-in-Some c = path_written c.args.graph.now.is_table c.in-Some.ensures.0 c.requires.class_len.1 c.put_path.ensures

pub returns-in-None : goal.returns-in-None
returns-in-None c =
    let none = c.in-None.ensures in
    barrier_written c.args.graph.now.is_table none.0 none.2 (c.path_or_barrier.auto.class ∙ c.requires.class_len.0) c.put_barrier.ensures
