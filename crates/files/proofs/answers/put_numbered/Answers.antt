use Rattle.std.proofs.Common.{rules}
use Rattle.formats.specs.Kinds.{kind_number}
use Rattle.frames.specs.Frames.{frame6}
use Rattle.files.proofs.answers.put_numbered.Goals as goal

pub returns : goal.returns
returns c = c.put_body.ensures (frame6 (kind_number c.args.layout.first)) (λ i x r p. search rules)
