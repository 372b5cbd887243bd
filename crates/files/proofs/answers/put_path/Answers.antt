use Rattle.std.proofs.Common.{rules, ℕ}
use Rattle.formats.specs.Kinds.{step_kind}
use Rattle.frames.specs.Frames.{frame_of4}
use Rattle.frames.proofs.Writes.{frame_of4_parts}
use Rattle.files.proofs.AnswerLines.{path_lines_lem, header_then, first_written}
use Rattle.files.proofs.answers.put_path.Goals as goal

pub returns : goal.returns
returns c =
    let lines = c.put_body.ensures (λ (i n : ℕ). frame_of4 step_kind n) (λ i n r p. search (rules, frame_of4_parts)) in
    let x = header_then _ _ c.put_frame.ensures (rw path_lines_lem at lines) in
    first_written c.new-text.ensures x (search rules)
