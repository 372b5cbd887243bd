use Rattle.std.proofs.Common.{arith}
use Rattle.pairing.proofs.DoubledTables.{fit_named, fit_in_row, fit_room, fit_next, fits_end}
use Rattle.pairing.proofs.table.put_fits.Goals as goal

pub bounds-row-from : goal.bounds-row-from
bounds-row-from c = rw c.from.ensures (fit_in_row c.args.stock.now.is_table c.requires.paired_fits c.loop-fit.invariant (omega arith))

pub put_fit-requires-clause-cameras : goal.put_fit-requires-clause-cameras
put_fit-requires-clause-cameras c =
    let T = c.args.stock.now.is_table in
    let fit = fit_named T c.loop-fit.fit-index (omega arith) in
    (fit.0, omega (arith, T.cameras_few))

pub put_fit-requires-clause-room : goal.put_fit-requires-clause-room
put_fit-requires-clause-room c =
    rw c.from.ensures (fit_room c.args.stock.now.is_table c.requires.paired_fits c.loop-fit.invariant (omega arith) c.requires.room)

pub loop-fit-preserved : goal.loop-fit-preserved
loop-fit-preserved c =
    fit_next c.args.stock.now.is_table c.requires.paired_fits c.loop-fit.invariant (omega arith) (rw c.from.ensures at c.put_fit.ensures)

pub returns : goal.returns
returns c = fits_end c.args.stock.now.is_table c.requires.paired_fits c.loop-fit.invariant (omega arith)
