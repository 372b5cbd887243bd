-- The doubled table is searched; a path is followed, or the reached nodes are told.
use Rattle.std.proofs.Common.{◌≡◌, ◌≤◌, ◌<◌, length, arith}
use Rattle.matching.specs.Row.{partner_in}
use Rattle.matching.specs.DoubledTable.{doubled_table}
use Rattle.pairing.proofs.DoubledTables.{doubled_read}
use Rattle.pairing.proofs.OneSearch.{arc_table, path_few, path_rotates, path_stepped, none_stepped}
use Rattle.pairing.proofs.plan.improve.Goals as goal
use Rattle.pairing.proofs.plan.improve.Goals.{In-Some, After-as_slice}

-- the arcs searched
read : (c : After-as_slice) → c.as_slice.result.now ≡ (doubled_table (length c.args.row.now) c.args.stock.now.fits.now (partner_in c.args.row.now)).arcs
read c = doubled_read c.args.stock.now.is_table c.requires.paired_fits c.new-arcs.ensures (omega arith) c.fill_table.ensures c.as_slice.ensures

few : (c : In-Some) → (0 < c.in-Some.end) × (c.in-Some.end ≤ length c.path_or_reached.new.path)
few c = path_few c.args.stock.now.is_table c.requires.paired_fits (read (goal.at.In-Some c).After-as_slice) (omega arith) c.in-Some.ensures.0

pub invariant_of-graph : goal.invariant_of-graph
invariant_of-graph c = record { is_table = arc_table c.args.stock.now.is_table c.requires.paired_fits (read c) }

pub slice_bounds-augment-count : goal.slice_bounds-augment-count
slice_bounds-augment-count c = omega (arith, few (goal.at.slice_bounds-augment-count c).In-Some)

pub slice_bounds-augment-start : goal.slice_bounds-augment-start
slice_bounds-augment-start c = omega (arith, few (goal.at.slice_bounds-augment-start c).In-Some)

pub augment-requires : goal.augment-requires
augment-requires c =
    let at = goal.at.augment-requires c in
    path_rotates c.args.stock.now.is_table c.requires.paired_fits (read at.After-as_slice) (omega arith) c.in-Some.ensures.0

pub returns-in-Some : goal.returns-in-Some
returns-in-Some c =
    let at = goal.at.returns-in-Some c in
    path_stepped c.args.stock.now.is_table c.requires.paired_fits (read at.After-as_slice) (omega arith) c.in-Some.ensures.0 c.augment.ensures

pub returns-in-None : goal.returns-in-None
returns-in-None c =
    none_stepped c.args.stock.now.is_table c.requires.paired_fits (read (goal.at.returns-in-None c).After-as_slice) c.args.reached.now c.in-None.ensures
