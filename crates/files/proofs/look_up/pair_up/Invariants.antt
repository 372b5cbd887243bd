-- `files::look_up::pair_up` meets its contract: with the pairs that are left, all of them are stored.
use Rattle.std.specs.Iterator.Adapters.{zip_first, zip_second}
use Rattle.std.specs.Slice.Iter.{iter_rest}
use Rattle.counting.specs.Pairs.{zip_pairs}
use Rattle.counting.specs.SliceVecs.{Extending}
use Rattle.files.proofs.look_up.pair_up.Given as goal

abbrev pub invariant-loop-first : goal.invariant-loop-first
invariant-loop-first l =
    Extending l.initial.paired (zip_pairs l.firsts l.seconds) l.paired
    (zip_pairs (iter_rest (zip_first l.first-iterator)) (iter_rest (zip_second l.first-iterator)))
