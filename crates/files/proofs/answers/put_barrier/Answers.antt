use Rattle.std.proofs.Common.{rules}
use Rattle.files.proofs.AnswerLines.{class_lines_lem, header_then, first_written}
use Rattle.files.proofs.answers.put_barrier.Goals as goal

pub returns : goal.returns
returns c =
    let x = header_then _ _ c.put_barrier_line.ensures (rw class_lines_lem at c.put_numbered.ensures) in
    first_written c.new-text.ensures x (search rules)
