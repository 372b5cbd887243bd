-- `kept::slots::move_slot` meets its contract.
use mathlib.Core.Path.{◌≡◌}
use Prim.Native.Nat.{◌+◌, ◌-◌}
use native.Mathlib.Omega.{arith}
use Rattle.kept.proofs.Entries.{moved}
use Rattle.kept.specs.Block.{slot_at, slot_size}
use Rattle.kept.proofs.slots.move_slot.Goals as goal

pub returns : goal.returns
returns c =
    let a = c.args in
    let from = slot_at a.from.number in
    let size : (from + slot_size) - from ≡ slot_size = omega arith in
    let copied = rw (c.at-at.ensures, size) at c.copy_from_slice.ensures.after in
    moved a.state.now a.from.number a.to.number (rw c.at.ensures at c.put_bytes.ensures) copied (omega arith) (omega arith) (omega arith)
