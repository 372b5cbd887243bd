-- `frames::numbers::number_at` meets its contract. The invariant: the number so far is that of the digits passed, and each of them has added no more
-- than a byte.
use mathlib.Core.Path.{◌≡◌}
use Prim.Native.Nat.{◌^◌, ◌<◌}
use lib.ListN.{take}
use Rattle.frames.specs.Frames.{hex_from}
use Rattle.frames.proofs.numbers.number_at.Given as goal

abbrev pub invariant-loop-c : goal.invariant-loop-c
invariant-loop-c g l = (l.number ≡ hex_from 0 (take l.c-index l.digits)) × (l.number < 256 ^ l.c-index)
