use Rattle.std.proofs.Common.{rules, arith, ap, length, ◌+◌, ◌≤◌, ◌*◌}
use Rattle.counting.specs.SliceVecs.{Extended}
use Rattle.counting.proofs.SliceVecs.{extended_long, extended_then}
use Rattle.frames.proofs.Writes.{frame4_length}
use Rattle.formats.specs.Kinds.{sheet_kind}
use Rattle.files.specs.StockFile.{plan_text}
use Rattle.files.proofs.AnswerLines.{pair_lines_lem, mark_lines_lem, plan_size, header_then, first_size, first_written}
use Rattle.files.proofs.answers.put_plan_and_sheet.Goals as goal
use Rattle.files.proofs.answers.put_plan_and_sheet.Goals.{After-put_pairs}

plan : (c : After-put_pairs) → Extended c.new-text.result (plan_text c.args.pairs.now) c.put_pairs.new.out
plan c = rw pair_lines_lem at c.put_pairs.ensures

-- behind the plan there is room for the sheet
room : (c : After-put_pairs) → c.put_pairs.new.out.len + (12 + 7 * length c.args.marks.now) ≤ length c.put_pairs.new.out.slice.now
room c =
    omega (arith, first_size c.new-text.ensures (plan c), extended_long (plan c), ap length c.new-text.ensures.slice_is, plan_size c.args.pairs.now, c.requires)

pub put_frame-requires : goal.put_frame-requires
put_frame-requires c = omega (arith, room (goal.at.put_frame-requires c).After-put_pairs)

pub put_numbered-requires : goal.put_numbered-requires
put_numbered-requires c =
    omega (arith, room (goal.at.put_numbered-requires c).After-put_pairs, c.put_frame.ensures.len_is, extended_long c.put_frame.ensures, frame4_length sheet_kind (length c.args.pairs.now))

pub returns : goal.returns
returns c =
    let sheet = header_then _ _ c.put_frame.ensures (rw mark_lines_lem at c.put_numbered.ensures) in
    first_written c.new-text.ensures (extended_then (plan (goal.at.returns c).After-put_pairs) sheet) (search rules)
