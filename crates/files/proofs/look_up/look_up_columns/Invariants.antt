-- `files::look_up::look_up_columns` meets its contract: the fits looked at so far are smaller.
use Rattle.counting.specs.Pairs.{zip_pairs}
use Rattle.files.proofs.PairScans.{AllPassed}
use Rattle.files.proofs.look_up.look_up_columns.Given as goal

abbrev pub invariant-loop-i : goal.invariant-loop-i
invariant-loop-i l = AllPassed (zip_pairs l.firsts l.seconds) l.pair l.i
