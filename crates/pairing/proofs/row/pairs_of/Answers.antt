use Rattle.std.proofs.Common.{refl, length, arith}
use Rattle.counting.specs.Tests.{below}
use Rattle.counting.proofs.Range.{length_up}
use Rattle.matching.specs.Matching.{pair_of, pairs_in_order}
use Rattle.matching.specs.Row.{partner_in}
use Rattle.pairing.proofs.CameraLists.{by_camera_room, by_camera_next, by_camera_end}
use Rattle.pairing.proofs.RowPairs.{pairs_size}
use Rattle.pairing.proofs.row.pairs_of.Goals as goal

pub put_pair-requires : goal.put_pair-requires
unfolding pairs_in_order
put_pair-requires c =
    let row = c.args.row.now in
    by_camera_room c.loop-partner.invariant pair_of (λ k ks. refl) c.in-Some.ensures.steps
    (omega (arith, pairs_size (partner_in row) (below (length row)), length_up 0 (length row), c.requires.room))

pub loop-partner-preserved : goal.loop-partner-preserved
unfolding pairs_in_order
loop-partner-preserved c = by_camera_next c.loop-partner.invariant pair_of (λ k ks. refl) c.in-Some.ensures.steps c.put_pair.ensures

pub returns : goal.returns
unfolding pairs_in_order
returns c = by_camera_end c.loop-partner.invariant c.requires.row_len_bound refl c.in-None.ensures.steps
