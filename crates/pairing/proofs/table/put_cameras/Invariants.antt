-- Camera by camera: with the arcs of the cameras left behind them, the arcs written are those of every camera.
use Rattle.std.specs.Slice.Iter.{iter_rest}
use Rattle.std.specs.Iterator.Adapters.{zip_first, zip_second}
use Rattle.pairing.specs.Table.{arcs_of_cameras}
use Rattle.pairing.specs.Row.{ByCamera}
use Rattle.pairing.proofs.table.put_cameras.Given as goal

abbrev pub invariant-loop-w : goal.invariant-loop-w
invariant-loop-w l = ByCamera (arcs_of_cameras l.row) l.row l.initial.arcs (iter_rest (zip_first l.w-iterator)) (zip_second l.w-iterator).start l.arcs
