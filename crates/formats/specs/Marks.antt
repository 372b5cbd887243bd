-- Marks by their numbers.
--   mark_number m     the number of a mark, as a sheet has it
use Rattle.std.specs.Prelude.{ℕ}
use Rattle.formats.specs.declared.marks.Mark.{Mark}
use Rattle.formats.specs.declared.marks.Mark.TheVariants as mark

abbrev pub mark_number : Mark → ℕ
mark_number mark.Outer = 0
mark_number mark.Inner = 1
mark_number mark.Other = 2
mark_number mark.NoFit = 3
