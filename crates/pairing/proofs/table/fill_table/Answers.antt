-- The cameras' arcs and then the fits' are the doubled table.
use Rattle.std.proofs.Common.{arith}
use Rattle.counting.proofs.SliceVecs.{extended_long}
use Rattle.pairing.proofs.DoubledTables.{row_low, cameras_size, doubled}
use Rattle.pairing.proofs.table.fill_table.Goals as goal

pub put_cameras-requires-clause-by_index : goal.put_cameras-requires-clause-by_index
put_cameras-requires-clause-by_index c = row_low c.args.stock.now.is_table c.requires.paired_fits

pub put_fits-requires-clause-room : goal.put_fits-requires-clause-room
put_fits-requires-clause-room c =
    let T = c.args.stock.now.is_table in
    omega (arith, T.cameras_few, T.fits_few, c.requires.paired_fits.long, cameras_size c.args.row.now, c.requires.room, extended_long c.put_cameras.ensures)

pub returns : goal.returns
returns c = doubled c.args.stock.now.is_table c.requires.paired_fits c.put_cameras.ensures c.put_fits.ensures
