-- Camera by camera: those before k are their own partners. Pair by pair, the last first: the row stands for the pairs behind those left.
use Rattle.std.proofs.Common.{◌≡◌, ℕ, ◌<◌, get_or}
use Rattle.std.specs.Slice.Iter.{iter_rest}
use Rattle.std.specs.Iterator.Adapters.{rev_source}
use Rattle.pairing.specs.Row.{LitFrom}
use Rattle.pairing.proofs.row.row_of.Given as goal

abbrev pub invariant-loop-k : goal.invariant-loop-k
invariant-loop-k l = (u : ℕ) → u < l.k → get_or l.row u 0 ≡ u

abbrev pub invariant-loop-pair : goal.invariant-loop-pair
invariant-loop-pair l = LitFrom l.stock.lit.now l.initial.row (iter_rest (rev_source l.pair-iterator)) l.row
