-- Fit by fit: the flags set and those of the fits from here on are all. Camera by camera: with the marks of the cameras left, all are written.
use Rattle.std.proofs.Common.{◌≡◌}
use Rattle.std.specs.Slice.Iter.{iter_rest, chunks_exact_rest, chunks_exact_size}
use Rattle.std.specs.Iterator.Adapters.{zip_first, zip_second}
use Rattle.counting.specs.SliceVecs.{Extending}
use Rattle.pairing.specs.Table.{FlagsSet, marks_read}
use Rattle.pairing.specs.Lent.{stock_of}
use Rattle.pairing.proofs.marks.marks_of.Given as goal

abbrev pub invariant-loop-fit : goal.invariant-loop-fit
invariant-loop-fit l = FlagsSet (stock_of l.stock) l.flags l.fit-index

abbrev pub invariant-loop-flag : goal.invariant-loop-flag
invariant-loop-flag l =
    let all = iter_rest (zip_first l.initial.flag-iterator) in
    let left = l.flag-iterator in
    (chunks_exact_size (zip_second left) ≡ 2) ×
    Extending l.initial.told (marks_read all l.reached) l.told (marks_read (iter_rest (zip_first left)) (chunks_exact_rest (zip_second left)))
