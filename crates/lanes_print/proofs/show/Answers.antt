use Rattle.lanes_print.proofs.Printing.{refusal_shows}
use Rattle.lanes_print.proofs.show.Goals as goal

pub returns-in-Err : goal.returns-in-Err
returns-in-Err c = rw c.in-Err.is (refusal_shows c.in-Err.refusal (rw c.from.ensures at c.put_line.ensures))
