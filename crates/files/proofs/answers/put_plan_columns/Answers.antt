use Rattle.std.proofs.Common.{rules, arith, ℕ, get_or}
use Rattle.formats.specs.Kinds.{pair_kind}
use Rattle.counting.specs.SliceVecs.{Extended}
use Rattle.counting.specs.Pairs.{zip_pairs}
use Rattle.counting.proofs.Zips.{zip_first}
use Rattle.frames.specs.Frames.{frame6}
use Rattle.files.specs.StockFile.{plan_text}
use Rattle.files.proofs.AnswerLines.{column_lines_lem, plan_size, header_then, first_size, first_written}
use Rattle.files.proofs.answers.put_plan_columns.Goals as goal
use Rattle.files.proofs.answers.put_plan_columns.Goals.{After-put_body}

plan : (c : After-put_body) → Extended c.new-text.result (plan_text (zip_pairs c.args.firsts.now c.args.seconds.now)) c.put_body.new.out
plan c =
    let a = c.args in
    let lines = c.put_body.ensures (λ (i x : ℕ). frame6 pair_kind x (get_or a.seconds.now i 0)) (λ i x r p. search rules) in
    let x = header_then _ _ c.put_frame.ensures (rw (column_lines_lem 0 a.firsts.now a.seconds.now (omega (arith, c.requires.enough))) at lines) in
    rw (zip_first a.firsts.now a.seconds.now c.requires.enough) x

pub returns-clause-text : goal.returns-clause-text
returns-clause-text c = first_written c.new-text.ensures (plan (goal.at.returns-clause-text c).After-put_body) (search rules)

pub returns-clause-size : goal.returns-clause-size
returns-clause-size c =
    let a = c.args in
    let x = first_size c.new-text.ensures (plan (goal.at.returns-clause-size c).After-put_body) in
    omega (arith, x, plan_size (zip_pairs a.firsts.now a.seconds.now), zip_first a.firsts.now a.seconds.now c.requires.enough)
