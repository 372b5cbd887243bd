use Rattle.std.proofs.Common.{arith}
use Rattle.lanes_print.proofs.Printing.{graph_prints}
use Rattle.lanes_print.proofs.print_graph.Goals as goal

pub returns : goal.returns
returns c = graph_prints c.args.file.now (omega arith) c.answer_graph_by-answer.ensures.owes c.show.ensures
