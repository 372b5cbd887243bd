use Rattle.std.proofs.Common.{◌∙◌, sym, arith, length-set, refl}
use Rattle.files.proofs.SharedCameras.{shared_start, shared_fails_first, shared_fails_second, shared_next, shared_end}
use Rattle.files.proofs.questions.none_shared.Goals as goal
use Rattle.files.proofs.questions.none_shared.Goals.{then-flags-first-via-then-flags-first, then-flags-first-via-else-flags-first+then-flags-second}

pub loop-pair-init : goal.loop-pair-init
loop-pair-init c = (refl, shared_start 256 c.args.pairs.now)

pub returns-then-flags-first : goal.returns-then-flags-first
returns-then-flags-first c =
    sym (c.loop-pair.invariant.1 ∙
    (elim c.then-flags-first.branch [
      | then-flags-first-via-then-flags-first w ↦
          shared_fails_first _ _ _ c.loop-pair-test.true (rw c.numbers-first.ensures.first at w.if-flags-first.true)
      | then-flags-first-via-else-flags-first+then-flags-second w ↦
          shared_fails_second _ _ _ c.loop-pair-test.true (rw c.numbers-first.ensures.second at w.if-flags-second.true)
    ]))

pub loop-pair-preserved : goal.loop-pair-preserved
loop-pair-preserved c =
    let n = c.numbers-first.ensures in
    let room = c.loop-pair.invariant.0 in (
      simp length-set room,
      c.loop-pair.invariant.1 ∙
          (rw (← c.numbers-first.ensures.first, ← c.numbers-first.ensures.second) at
          (shared_next c.args.pairs.now c.loop-pair.flags c.loop-pair.pair-index c.loop-pair-test.true (omega (arith, n.first, n.bytes, room)) (omega (arith, n.second, n.bytes, room))
          (rw c.numbers-first.ensures.first at c.if-flags-first.false) (rw c.numbers-first.ensures.second at c.if-flags-second.false))),
    )

pub returns : goal.returns
returns c = sym (c.loop-pair.invariant.1 ∙ shared_end _ _ _ c.loop-pair-test.false)
