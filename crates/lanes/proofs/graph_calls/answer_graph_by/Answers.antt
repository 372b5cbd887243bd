-- `lanes::graph_calls::answer_graph_by` meets its contract: refused, or what was written is what is owed.
use Rattle.std.proofs.Common.{sym, ◌∙◌}
use Rattle.lanes.proofs.CallFaults.{call_refused, call_passes}
use Rattle.lanes.proofs.GraphCalls.{graph_refused, graph_answered}
use Rattle.lanes.proofs.graph_calls.answer_graph_by.Goals as goal

pub returns-in_err-ask_call : goal.returns-in_err-ask_call
returns-in_err-ask_call c =
    graph_refused _ _ c.from_residual.ensures (call_refused c.in_err-ask_call.ensures _)

pub returns-in_err-graph : goal.returns-in_err-graph
returns-in_err-graph c =
    graph_refused _ _ c.from_residual-in_err-graph.ensures (call_passes c.in_ok-ask_call.ensures _ ∙ sym c.in_err-graph.ensures)

pub returns : goal.returns
returns c =
    let taken = c.in_ok-graph.ensures in graph_answered taken.0 taken.1 c.in_ok-ask_call.ensures c.write_graph.ensures
