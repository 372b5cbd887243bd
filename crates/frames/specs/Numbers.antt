-- Numbers of digits, as code reads them from bytes that may be no digits. The bounds hold for all bytes, so that no sum wraps; digits
-- alone keep within 16 and 16 ^ size (proofs/HexNumbers).
--   DigitValue c r          r is the value of the byte c
--   NumberAt f at size r    r is the number of so many digits at a place of f
use Rattle.std.specs.Prelude.{◌≡◌, List, ℕ, ◌^◌, ◌≤◌, ◌<◌}
use Rattle.frames.specs.Frames.{digit_of, hex_at}

pub record DigitValue (c r : ℕ) : Type 0 where
  pub is : r ≡ digit_of c
  pub small : r ≤ 200

pub record NumberAt (f : List ℕ) (at size r : ℕ) : Type 0 where
  pub is : r ≡ hex_at at size f
  pub small : r < 256 ^ size
