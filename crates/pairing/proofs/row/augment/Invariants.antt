-- Rotation by rotation: the rotations done and those left are those of the path.
use Rattle.std.proofs.Common.{◌≡◌}
use Rattle.std.specs.Slice.Iter.{chunks_exact_rest, chunks_exact_size}
use Rattle.pairing.specs.Row.{Following}
use Rattle.pairing.proofs.row.augment.Given as goal

abbrev pub invariant-loop-turn : goal.invariant-loop-turn
invariant-loop-turn l =
    (chunks_exact_size l.turn-iterator ≡ 2) × Following l.arcs l.path l.initial.row (chunks_exact_rest l.turn-iterator) l.row
