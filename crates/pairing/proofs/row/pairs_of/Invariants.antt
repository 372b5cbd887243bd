-- Camera by camera: with the pairs of the cameras left behind them, the pairs written are those of the row.
use Rattle.std.specs.Slice.Iter.{iter_rest}
use Rattle.std.specs.Iterator.Adapters.{zip_first, zip_second}
use Rattle.matching.specs.Matching.{pairs_in_order}
use Rattle.matching.specs.Row.{partner_in}
use Rattle.pairing.specs.Row.{ByCamera}
use Rattle.pairing.proofs.row.pairs_of.Given as goal

abbrev pub invariant-loop-partner : goal.invariant-loop-partner
invariant-loop-partner l =
    ByCamera (pairs_in_order (partner_in l.row)) l.row l.initial.pairs (iter_rest (zip_first l.partner-iterator)) (zip_second l.partner-iterator).start l.pairs
