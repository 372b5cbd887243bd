use Rattle.std.proofs.Common.{arith, rules}
use Rattle.counting.proofs.SliceVecs.{extending_next}
use Rattle.counting.proofs.Zips.{seconds_length}
use Rattle.files.proofs.Tables.{store_room, store_end, seconds_next, seconds_none}
use Rattle.files.proofs.certificates.put_classes.Goals as goal

pub push-requires : goal.push-requires
push-requires c =
    store_room c.new-stored.ensures c.loop-line.invariant (seconds_next _ _ c.loop-line-test.true) (omega (arith, seconds_length c.args.lines.now))

pub loop-line-preserved : goal.loop-line-preserved
loop-line-preserved c = extending_next c.loop-line.invariant _ (seconds_next _ _ c.loop-line-test.true) c.push.ensures

pub returns : goal.returns
returns c = (store_end c.new-stored.ensures c.loop-line.invariant (seconds_none _ _ c.loop-line-test.false) (search rules)).0
