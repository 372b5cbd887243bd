use Rattle.std.proofs.Common.{rules, ◌∙◌}
use Rattle.files.proofs.AnswerLines.{pair_lines_lem, plan_size, first_size, first_written}
use Rattle.files.proofs.answers.put_plan.Goals as goal

pub returns-clause-text : goal.returns-clause-text
returns-clause-text c = first_written c.new-text.ensures (rw pair_lines_lem at c.put_pairs.ensures) (search rules)

pub returns-clause-size : goal.returns-clause-size
returns-clause-size c = first_size c.new-text.ensures (rw pair_lines_lem at c.put_pairs.ensures) ∙ plan_size c.args.pairs.now
