-- The path that the labels give is pushed.
use Rattle.std.proofs.Common.{arith, refl}
use Rattle.counting.proofs.SliceVecs.{extended_then}
use Rattle.search.specs.Lent.{labels_of}
use Rattle.search.proofs.Restores.{split, split_first, split_second, first_falls, second_falls, first_pushed, arc_room, second_pushed, restored_stop, restored_arc, restored_bud}
use Rattle.search.proofs.restore.+restore.Goals as goal

-- the start of the path
pub returns-then-v-stop : goal.returns-then-v-stop
returns-then-v-stop t c = restored_stop _ (labels_of c.args.labels.now) _ c.if-v-stop.true

-- the first inner call
pub restore-requires : goal.restore-requires
restore-requires t c =
    let K = split c.requires c.if-v-stop.false in
    let e = c.ends-x.ensures.tail in
    (omega (arith, c.decreases, first_falls K e), split_first K e)

-- the arc
pub push-requires : goal.push-requires
push-requires t c =
    let K = split c.requires c.if-v-stop.false in arc_room K (first_pushed K c.ends-x.ensures.tail c.restore.ensures)

pub returns-then-y-v : goal.returns-then-y-v
returns-then-y-v t c =
    let K = split c.requires c.if-v-stop.false in
    restored_arc K (extended_then (first_pushed K c.ends-x.ensures.tail c.restore.ensures) c.push.ensures) c.ends-x.ensures.head c.if-y-v.true

-- the second inner call, and its part turned
pub restore-requires-2 : goal.restore-requires-2
restore-requires-2 t c =
    let K = split c.requires c.if-v-stop.false in
    let F = extended_then (first_pushed K c.ends-x.ensures.tail c.restore.ensures) c.push.ensures in
    let y = c.ends-x.ensures.head in
    let w = c.mate_of-w.ensures in
    (omega (arith, c.decreases, second_falls K y w c.if-y-v.false), split_second K F y c.mate_of-m.ensures w)

pub mate_reverse-requires : goal.mate_reverse-requires
mate_reverse-requires t c =
    let K = split c.requires c.if-v-stop.false in
    let F = extended_then (first_pushed K c.ends-x.ensures.tail c.restore.ensures) c.push.ensures in
    let G = second_pushed K F c.ends-x.ensures.head c.mate_of-m.ensures c.mate_of-w.ensures c.restore-2.ensures in
    rw G.part G.small

pub returns : goal.returns
returns t c =
    let K = split c.requires c.if-v-stop.false in
    let F = extended_then (first_pushed K c.ends-x.ensures.tail c.restore.ensures) c.push.ensures in
    let G = second_pushed K F c.ends-x.ensures.head c.mate_of-m.ensures c.mate_of-w.ensures c.restore-2.ensures in
    restored_bud K F G c.mate_reverse.ensures refl refl refl
