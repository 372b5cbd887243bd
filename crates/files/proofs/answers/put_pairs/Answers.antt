use Rattle.std.proofs.Common.{rules, arith, ℕ, ◌∷◌}
use Rattle.formats.specs.Kinds.{kind_number}
use Rattle.counting.specs.declared.Pair.{Pair}
use Rattle.counting.proofs.SliceVecs.{extended_long}
use Rattle.frames.specs.Frames.{frame6}
use Rattle.frames.proofs.Writes.{frame_length}
use Rattle.files.proofs.AnswerLines.{header_then}
use Rattle.files.proofs.answers.put_pairs.Goals as goal

pub put_body-requires-clause-room : goal.put_body-requires-clause-room
put_body-requires-clause-room c =
    let x = c.put_frame.ensures in
    omega (arith, c.requires, x.len_is, extended_long x, frame_length (kind_number c.args.layout.header ∷ c.args.numbers.now))

pub returns : goal.returns
returns c =
    header_then _ _ c.put_frame.ensures
    (c.put_body.ensures (λ (i : ℕ) (x : Pair). frame6 (kind_number c.args.layout.first) x.first x.second) (λ i x r p. search rules))
