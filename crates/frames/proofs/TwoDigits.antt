-- The table of numbers in two digits.
--   two_digits       what stands in it for a number's lowest byte: the number's two lowest digits
use mathlib.Core.Path.{◌≡◌, refl}
use mathlib.Core.Bool.{Bool, true, ◌&&◌}
use Prim.Native.Nat.{ℕ, ◌+◌, ◌*◌, ◌/◌, ◌%◌}
use native.Mathlib.Omega.{arith}
use lib.Dec.{eqb}
use lib.ListN.{get_or}
use borrow.Author.Tests.{eqb-true}
use Rattle.counting.specs.Tests.{all, up_from, below}
use Rattle.counting.proofs.Booleans.{and_two}
use Rattle.counting.proofs.Membership.{all_each}
use Rattle.counting.proofs.Range.{up_in}
use Rattle.frames.specs.Frames.{digit_byte}
use Rattle.frames.specs.declared.write.TheConstants.{TWO_DIGITS}

abbrev stands : ℕ → Bool
stands x = eqb (get_or TWO_DIGITS (x * 2) 0) (digit_byte (x / 16 % 16)) && eqb (get_or TWO_DIGITS (x * 2 + 1) 0) (digit_byte (x % 16))

all_stand : all stands (below 256) ≡ true
unfolding all up_from
all_stand = refl

pub two_digits : (x : ℕ) →
    (get_or TWO_DIGITS (x % 256 * 2) 0 ≡ digit_byte (x / 16 % 16)) × (get_or TWO_DIGITS (x % 256 * 2 + 1) 0 ≡ digit_byte (x % 16))
two_digits x =
    let upper : x % 256 / 16 % 16 ≡ x / 16 % 16 = omega arith in
    let lower : x % 256 % 16 ≡ x % 16 = omega arith in
    let s = and_two _ _ (all_each stands (below 256) all_stand (x % 256) (up_in 0 256 (x % 256) (omega arith) (omega arith))) in
    (rw (← upper) (eqb-true _ _ s.0), rw (← lower) (eqb-true _ _ s.1))
