-- Flags of cameras.
--   no_flag            none is set in a table in which none is
--   no_flag_new        and so none in a new one
--   flag_pair_lem      a pair's two stores set the flags of the cameras that it touches, and no other
use Rattle.std.proofs.Common.{◌≡◌, refl, sym, ◌∙◌, Bool, true, false, not, ◌||◌, List, [], ◌∷◌, ℕ, zero, suc, ◌<◌, length, set, replicate, length-set, get_or-set_same, get_or-set_other}
use mathlib.Core.Bool.{or-true, or-false, or_assoc}
use lib.Dec.{eqb}
use borrow.Author.Tests.{eqb-true, eqb-false}
use Rattle.counting.specs.Tests.{all}
use Rattle.counting.specs.declared.Pair.{Pair}
use Rattle.counting.proofs.Booleans.{by_test}
use Rattle.matching.specs.Stock.{touches}
use Rattle.matching.specs.Flags.{is_flagged, flag_pair}

pub no_flag : (ts : List Bool) (u : ℕ) → all (λ (x : Bool). not x) ts ≡ true → is_flagged ts u ≡ false
unfolding all
no_flag [] u e = refl
no_flag (true ∷ xs) u e = cc
no_flag (false ∷ xs) zero e = refl
no_flag (false ∷ xs) (suc u) e = no_flag xs u e

all_new : (n : ℕ) → all (λ (x : Bool). not x) (replicate n false) ≡ true
unfolding all
all_new zero = refl
all_new (suc n) = all_new n

pub no_flag_new : (n u : ℕ) → is_flagged (replicate n false) u ≡ false
no_flag_new n u = no_flag (replicate n false) u (all_new n)

flag_one : (ts : List Bool) (u w : ℕ) → u < length ts → is_flagged (set ts u true) w ≡ (is_flagged ts w || eqb u w)
flag_one ts u w h =
    by_test (eqb u w)
    (λ e. let d = eqb-true u w e in rw (e, ← d, get_or-set_same) (sym (or-true (is_flagged ts u))))
    (λ e. rw (e, get_or-set_other ts u w true false (λ d. eqb-false u w e (sym d))) (sym (or-false (is_flagged ts w))))

pub flag_pair_lem : (ts : List Bool) (x : Pair) (w : ℕ) → x.first < length ts → x.second < length ts →
    is_flagged (flag_pair ts x) w ≡ (is_flagged ts w || touches x w)
flag_pair_lem ts x w p q =
    flag_one (set ts x.first true) x.second w (rw length-set q) ∙ rw (flag_one ts x.first w p) (or_assoc (is_flagged ts w) (eqb x.first w) (eqb x.second w))
