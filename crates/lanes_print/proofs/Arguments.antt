-- A number of searches as it is typed, read digit by digit.
--   said_digits, said_other       what is said where there are only digits; where there is another byte
--   said_known                    what is said of some texts, by computing
use mathlib.Core.Path.{◌≡◌, refl, ◌∙◌}
use mathlib.Core.Bool.{true, false}
use mathlib.Core.List.{List, [], ◌∷◌}
use Prim.Native.Nat.{ℕ, ◌+◌, ◌-◌, ◌*◌, min, ◌≤◌}
use native.Mathlib.Omega.{arith}
use lib.Dec.{eqb}
use lib.ListN.{length}
use Rattle.std.specs.List.{fold}
use Rattle.counting.specs.Tests.{all}
use Rattle.lanes_print.specs.Argument.{is_decimal, decimal_from, too_many, with_digit, most_said, KnownArguments}

-- what is cut off at too_many stays there with the digits behind it
cut_off : (x y : ℕ) (ds : List ℕ) → min x too_many ≡ min y too_many → min (decimal_from x ds) too_many ≡ min (decimal_from y ds) too_many
unfolding decimal_from
cut_off x y [] h = h
cut_off x y (d ∷ ds) h = cut_off (10 * x + (d - 48)) (10 * y + (d - 48)) ds (omega arith)

digits_fold : (v : ℕ) (ds : List ℕ) → v ≤ too_many → fold with_digit v ds ≡ min (decimal_from v ds) too_many
unfolding decimal_from
digits_fold v [] h = omega arith
digits_fold v (d ∷ ds) h = digits_fold (with_digit v d) ds (omega arith) ∙ cut_off (with_digit v d) (10 * v + (d - 48)) ds (omega arith)

module _ (text : List ℕ) (b : eqb (length text) 0 ≡ false) where
  pub said_digits : all is_decimal text ≡ true → fold with_digit 0 text ≡ most_said text
  said_digits d = digits_fold 0 text (omega arith) ∙ rw (b, d)

  pub said_other : all is_decimal text ≡ false → too_many ≡ most_said text
  said_other d = rw (b, d)

pub said_known : KnownArguments
unfolding decimal_from all
said_known = (refl, refl, refl, refl, refl, refl, refl, refl)
