use Rattle.std.proofs.Common.{rules}
use Rattle.lanes_print.proofs.Printing.{line_prints}
use Rattle.lanes_print.proofs.put_line.Goals as goal

pub returns : goal.returns
returns c = line_prints c.new-line.ensures (rw c.from.ensures at c.put_frame.ensures) (search rules)
