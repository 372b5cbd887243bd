-- A number of searches as it is typed (document 02, L4: "a number B, 0 to 64").
--   is_decimal byte             a decimal digit
--   decimal_from value digits   the number that digits say behind a value
--   too_many                    one more than question 15 allows
--   with_digit value digit      a number with one digit more, cut off at too_many
--   said_from value text        the number said behind a value: no more than too_many, and that where a byte is no digit
--   most_said text              the number said; too_many where nothing is
--   KnownArguments              0, 64, 007, 65, 320; an empty text, a sign and a blank
use Rattle.std.specs.Prelude.{◌≡◌, Bool, ◌&&◌, List, [], ◌∷◌, ℕ, suc, ◌+◌, ◌-◌, ◌*◌, min, leb, eqb, length}
use Rattle.formats.specs.Limits.{searches_most}
use Rattle.counting.specs.Tests.{pick, all}

abbrev pub is_decimal : (byte : ℕ) → Bool
is_decimal d = leb 48 d && leb d 57

unfoldable pub decimal_from : (value : ℕ) → (digits : List ℕ) → ℕ
decimal_from v [] = v
decimal_from v (d ∷ ds) = decimal_from (10 * v + (d - 48)) ds

abbrev pub too_many : ℕ
too_many = suc searches_most

abbrev pub with_digit : (value digit : ℕ) → ℕ
with_digit v d = min (10 * v + (d - 48)) too_many

abbrev pub said_from : (value : ℕ) → (text : List ℕ) → ℕ
said_from v ds = pick (all is_decimal ds) (min (decimal_from v ds) too_many) too_many

abbrev pub most_said : (text : List ℕ) → ℕ
most_said ds = pick (eqb (length ds) 0) too_many (said_from 0 ds)

abbrev pub KnownArguments : Type 0
KnownArguments =
    (most_said (48 ∷ []) ≡ 0) × (most_said (54 ∷ 52 ∷ []) ≡ 64) × (most_said (48 ∷ 48 ∷ 55 ∷ []) ≡ 7) ×
    (most_said (54 ∷ 53 ∷ []) ≡ 65) × (most_said (51 ∷ 50 ∷ 48 ∷ []) ≡ 65) × (most_said [] ≡ 65) ×
    (most_said (43 ∷ 53 ∷ []) ≡ 65) × (most_said (53 ∷ 32 ∷ []) ≡ 65)
