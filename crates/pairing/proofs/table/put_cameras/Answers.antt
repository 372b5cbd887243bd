use Rattle.std.proofs.Common.{refl, arith}
use Rattle.matching.specs.DoubledTable.{arcs_of_camera, camera_arcs}
use Rattle.pairing.proofs.CameraLists.{by_camera_room, by_camera_next, by_camera_end}
use Rattle.pairing.proofs.DoubledTables.{cameras_size}
use Rattle.pairing.proofs.table.put_cameras.Goals as goal

pub put_camera-requires-clause-room : goal.put_camera-requires-clause-room
unfolding camera_arcs
put_camera-requires-clause-room c =
    by_camera_room c.loop-w.invariant (arcs_of_camera _) (λ k ks. refl) c.in-Some.ensures.steps (omega (arith, cameras_size c.args.row.now, c.requires.room))

pub loop-w-preserved : goal.loop-w-preserved
unfolding camera_arcs
loop-w-preserved c = by_camera_next c.loop-w.invariant (arcs_of_camera _) (λ k ks. refl) c.in-Some.ensures.steps c.put_camera.ensures

pub returns : goal.returns
unfolding camera_arcs
returns c = by_camera_end c.loop-w.invariant c.requires.row_len_bound refl c.in-None.ensures.steps
