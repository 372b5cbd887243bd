use Rattle.std.proofs.Common.{arith}
use Rattle.lanes_print.proofs.Printing.{stock_prints}
use Rattle.lanes_print.proofs.print_stock.Goals as goal

pub returns : goal.returns
returns c = stock_prints c.args.file.now (omega arith) c.stock_by-answer.ensures.owes c.show.ensures
