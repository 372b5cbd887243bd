use Rattle.std.proofs.Common.{arith}
use Rattle.counting.proofs.SliceVecs.{extended_then, extending_start}
use Rattle.files.proofs.AnswerLines.{line_room, lines_next, lines_end}
use Rattle.files.proofs.answers.put_body.Goals as goal

pub loop-i-init : goal.loop-i-init
loop-i-init g c = (omega (arith, c.requires.room), λ line m. extending_start _ _)

pub loop-i-preserved : goal.loop-i-preserved
loop-i-preserved g c =
    let e = c.put_frame.ensures in (
      line_room _ _ _ c.loop-i.invariant.0 c.loop-i-test.true e,
      λ line m.
          lines_next line _ (c.loop-i.invariant.1 line m) c.loop-i-test.true c.index-values-i.is (rw (m _ _ _ c.fields-first.ensures) at e),
    )

pub returns : goal.returns
returns g c = λ line m. extended_then (lines_end line _ (c.loop-i.invariant.1 line m) c.loop-i-test.false) c.put_frame_of4.ensures
