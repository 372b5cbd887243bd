-- Numbers of digits, in a line and at their place in the file.
--   hex_two, hex_four    two digits from their values, four from two numbers of two
--   hex_more, bytes_more, bytes_few    with one digit more, and its bound by bytes
--   hex_part             a number of a line is the number at its place in the file
--   digit_small          the value of a digit is below 16
--   hex_small            a number of so many digits is below 16 ^ size
--   hex_small_part       and read in the file, where its line is digits
use mathlib.Core.Path.{◌≡◌, refl, ap, ◌∙◌}
use mathlib.Core.Logic.{◌⊎◌, inl, inr}
use mathlib.Core.Bool.{true}
use mathlib.Core.List.{List, [], ◌∷◌, ◌++◌}
use Prim.Native.Nat.{ℕ, zero, suc, ◌+◌, ◌*◌, ◌-◌, ◌^◌, ◌≤◌, ◌<◌}
use native.Mathlib.Nat.{mul_assoc, mul-le-mul_left, mul-le-mul_right, one-le-pow, pow-le-pow_right, pow-succ'}
use native.Mathlib.Omega.{arith}
use native.Mathlib.Numerals.{add-one}
use lib.Dec.{leb}
use lib.ListN.{length, get_or, take, drop, length-take}
use lib.Seq.{drop-cons, drop-drop, take-suc}
use borrow.Author.Tests.{leb-true}
use Rattle.counting.specs.Tests.{all}
use Rattle.counting.proofs.Booleans.{and_left, and_right, or_cases, by_test}
use Rattle.counting.proofs.Membership.{all_take, all_drop}
use Rattle.counting.proofs.Parts.{part_front}
use Rattle.frames.specs.Frames.{is_in, is_digit, digit_of, hex_from, hex_at}
use Rattle.frames.specs.Lines.{part}

-- one digit more, from the front
hex_step : (s i n : ℕ) (f : List ℕ) → i < length f →
    hex_from s (take (suc n) (drop i f)) ≡ hex_from (16 * s + digit_of (get_or f i 0)) (take n (drop (i + 1) f))
unfolding hex_from
hex_step s i n f h = rw (add-one, drop-cons f i 0 h)

pub hex_two : (i : ℕ) (f : List ℕ) → i + 2 ≤ length f → hex_at i 2 f ≡ 16 * digit_of (get_or f i 0) + digit_of (get_or f (i + 1) 0)
unfolding hex_from
hex_two i f h = hex_step 0 i 1 f (omega arith) ∙ hex_step _ (i + 1) 0 f (omega arith) ∙ omega arith

pub hex_four : (i : ℕ) (f : List ℕ) → i + 4 ≤ length f → hex_at i 4 f ≡ 256 * hex_at i 2 f + hex_at (i + 2) 2 f
unfolding hex_from
hex_four i f h =
    let a = hex_two i f (omega arith) in
    let b = hex_two (i + 2) f (omega arith) in
    let e : i + 1 + 1 ≡ i + 2 = omega arith in
    let r = hex_step 0 i 3 f (omega arith) ∙ hex_step _ (i + 1) 2 f (omega arith) ∙ hex_step _ (i + 1 + 1) 1 f (omega arith) ∙ hex_step _ (i + 1 + 1 + 1) 0 f (omega arith) in
    omega (arith, rw e at r)

-- one digit more, from the end; a digit is counted as a byte, which it is at most
hex_behind : (n c : ℕ) (xs : List ℕ) → hex_from n (xs ++ c ∷ []) ≡ 16 * hex_from n xs + digit_of c
unfolding hex_from
hex_behind n c [] = refl
hex_behind n c (x ∷ xs) = hex_behind (16 * n + digit_of x) c xs

pub hex_more : (i : ℕ) (xs : List ℕ) → i < length xs → hex_from 0 (take (i + 1) xs) ≡ 16 * hex_from 0 (take i xs) + digit_of (get_or xs i 0)
hex_more i xs h = rw (add-one, take-suc xs i 0 h) (hex_behind 0 (get_or xs i 0) (take i xs))

pub bytes_more : (i n v : ℕ) → n < 256 ^ i → v ≤ 200 → 16 * n + v < 256 ^ (i + 1)
bytes_more i n v h k = let p = one-le-pow i 256 (omega arith) in rw (add-one, pow-succ' 256 i) (omega arith)

pub bytes_few : (i n : ℕ) → n < 256 ^ i → i < 4 → n < 256 ^ 3
bytes_few i n h k = let p : 256 ^ i ≤ 256 ^ 3 = pow-le-pow_right (omega arith) {j = 3} (omega arith) in omega arith

-- IN A LINE and in the file
pub hex_part : (i n at end : ℕ) (f : List ℕ) → at + i + n ≤ end → hex_at i n (part at end f) ≡ hex_at (at + i) n f
hex_part i n at end f h = ap (hex_from 0) (part_front n i (end - at) (drop at f) (omega arith) ∙ ap (take n) (drop-drop i at f))

-- DIGITS alone
pub digit_small : (c : ℕ) → is_digit c ≡ true → digit_of c < 16
digit_small c d =
    by_test (leb c 57)
    (λ e. let h = leb-true c 57 e in rw e (omega arith))
    (λ e. rw e (letter (or_cases (is_in 48 57 c) (is_in 65 70 c) d)))
  where
    letter : (is_in 48 57 c ≡ true) ⊎ (is_in 65 70 c ≡ true) → c - 55 < 16
    letter (inl p) = let h = leb-true c 57 (and_right (leb 48 c) (leb c 57) p) in omega arith
    letter (inr p) = let h = leb-true c 70 (and_right (leb 65 c) (leb c 70) p) in omega arith

hex_below : (n s : ℕ) (xs : List ℕ) → all is_digit xs ≡ true → length xs ≤ n → hex_from s xs < (s + 1) * 16 ^ n
unfolding hex_from all
hex_below n s [] d h =
    let p = one-le-pow n 16 (omega arith) in
    let q = mul-le-mul_left (s + 1) p in
    omega arith
hex_below zero s (x ∷ xs) d h = absurd (omega arith)
hex_below (suc n) s (x ∷ xs) d h =
    let v = digit_small x (and_left (is_digit x) (all is_digit xs) d) in
    let r = hex_below n (16 * s + digit_of x) xs (and_right (is_digit x) (all is_digit xs) d) (omega arith) in
    let m : (16 * s + digit_of x + 1) * 16 ^ n ≤ (s + 1) * 16 * 16 ^ n = mul-le-mul_right (16 ^ n) (omega arith) in
    rw (pow-succ' 16 n, ← mul_assoc (s + 1) 16 (16 ^ n)) (omega arith)

pub hex_small : (i n : ℕ) (l : List ℕ) → all is_digit l ≡ true → hex_at i n l < 16 ^ n
hex_small i n l d =
    let r = hex_below n 0 (take n (drop i l)) (all_take is_digit n (drop i l) (all_drop is_digit i l d)) (simp length-take (omega arith)) in
    omega arith

pub hex_small_part : (i n at end : ℕ) (f : List ℕ) → at + i + n ≤ end → all is_digit (part at end f) ≡ true → hex_at (at + i) n f < 16 ^ n
hex_small_part i n at end f h d = rw (← hex_part i n at end f h) (hex_small i n (part at end f) d)
