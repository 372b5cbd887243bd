use Rattle.std.proofs.Common.{rules}
use Rattle.files.proofs.AnswerLines.{pair_lines_lem, first_written}
use Rattle.files.proofs.answers.put_budget.Goals as goal

pub returns : goal.returns
returns c = first_written c.new-text.ensures (rw pair_lines_lem at c.put_pairs.ensures) (search rules)
