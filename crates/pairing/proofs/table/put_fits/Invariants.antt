-- Fit by fit: with the arcs of the fits left behind them, the arcs written are those of every fit.
use Rattle.std.proofs.Common.{drop}
use Rattle.counting.specs.SliceVecs.{Extending}
use Rattle.pairing.specs.Table.{arcs_of_fits}
use Rattle.pairing.proofs.table.put_fits.Given as goal

abbrev pub invariant-loop-fit : goal.invariant-loop-fit
invariant-loop-fit l =
    let fits = l.stock.fits.now in Extending l.initial.arcs (arcs_of_fits l.row fits) l.arcs (arcs_of_fits l.row (drop l.fit-index fits))
