use mathlib.Core.Path.{refl, sym}
use native.Mathlib.Omega.{arith}
use lib.ListN.{length-take}
use Rattle.frames.specs.Frames.{hex_from}
use Rattle.frames.proofs.HexNumbers.{hex_more, bytes_more, bytes_few}
use Rattle.frames.proofs.numbers.number_at.Goals as goal

pub loop-c-init : goal.loop-c-init
unfolding hex_from
loop-c-init g c = (refl, omega arith)

pub overflow_mul-number : goal.overflow_mul-number
overflow_mul-number g c =
    let h = rw length-take at c.loop-c-test.true in
    let k = bytes_few _ _ c.loop-c.invariant.1 (omega arith) in
    omega arith

pub loop-c-preserved : goal.loop-c-preserved
loop-c-preserved g c =
    let r = c.loop-c.invariant in
    let d = c.digit_value.ensures in
    (rw (d.is, r.0) (sym (hex_more _ _ c.loop-c-test.true)), bytes_more _ _ _ r.1 d.small)
