-- Lines of a file one by one.
--   LineTaken lines line lines'     the next line, with what is left then; none at the file's end
use Rattle.std.specs.Prelude.{◌≡◌, Option, Some, None, ◌≤◌, length}
use Rattle.frames.specs.Lines.{LineAt}
use Rattle.frames.specs.declared.lines.Line.{Line}
use Rattle.frames.specs.declared.lines.Lines.{Lines}

abbrev pub LineTaken : Lines → Option Line → Lines → Type 0
LineTaken s None s' = length s.file.now ≤ s.at
LineTaken s (Some l) s' = (l.at ≡ s.at) × LineAt s.file.now s.at l.end l.next × (s'.at ≡ l.next) × (s'.file ≡ s.file)
