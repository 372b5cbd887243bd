-- How many lines a file of so many bytes has at most.
--   line_bytes lines    the bytes that lines take at least, each with one byte that ends it
--   lines_bytes         the lines of a file take no more than the file has; the last may lack its end
--   long_few            so lines of six digits or more are at most a seventh
use mathlib.Core.Path.{◌≡◌}
use mathlib.Core.Bool.{true}
use mathlib.Core.List.{List, [], ◌∷◌}
use Prim.Native.Nat.{ℕ, zero, suc, ◌+◌, ◌*◌, ◌≤◌, ◌<◌}
use native.Mathlib.Omega.{arith}
use lib.Dec.{ltb, leb}
use lib.ListN.{length, drop, length-drop}
use borrow.Author.Tests.{ltb-true, ltb-false, leb-true}
use Rattle.counting.specs.Tests.{all}
use Rattle.counting.proofs.Booleans.{and_left, and_right, by_test}
use Rattle.frames.specs.Frames.{with_byte, lines_of, is_digit}
use Rattle.frames.specs.Lines.{line_end}
use Rattle.frames.specs.Stores.{is_long}
use Rattle.frames.proofs.LineEnds.{lines_end, lines_byte}

line_bytes : List (List ℕ) → ℕ
line_bytes [] = 0
line_bytes (l ∷ ls) = length l + 1 + line_bytes ls

joined_bytes : (c m : ℕ) (ls : List (List ℕ)) → line_bytes ls ≤ m + 1 → line_bytes (with_byte c ls) ≤ m + 2
unfolding line_bytes
joined_bytes c m [] h = omega arith
joined_bytes c m (l ∷ ls) h = omega arith

-- from one line end to the next, whatever it takes
abbrev Few : ℕ → Type 0
Few n = (g : List ℕ) → length g ≤ n → line_bytes (lines_of g) ≤ length g + 1

few_more : (n : ℕ) → Few n → Few (suc n)
unfolding lines_of line_bytes
few_more n few [] h = omega arith
few_more n few (c ∷ cs) h =
    by_test (ltb 0 (line_end (c ∷ cs)))
    (λ e.
    let k : 0 < line_end (c ∷ cs) = ltb-true _ _ e in
    let d = length-drop (line_end (c ∷ cs)) (c ∷ cs) in
    let r = few (drop (line_end (c ∷ cs)) (c ∷ cs)) (omega arith) in
    rw (lines_end c cs k) (omega arith))
    (λ e.
    let k : line_end (c ∷ cs) ≤ 0 = ltb-false _ _ e in
    let r = joined_bytes c (length cs) (lines_of cs) (few cs (omega arith)) in
    rw (lines_byte c cs (omega arith)) (omega arith))

lines_bytes : (n : ℕ) → Few n
unfolding lines_of line_bytes
lines_bytes zero = none
  where
    none : (g : List ℕ) → length g ≤ 0 → line_bytes (lines_of g) ≤ length g + 1
    none [] h = omega arith
    none (c ∷ cs) h = absurd (omega arith)
lines_bytes (suc n) = few_more n (lines_bytes n)

long_bytes : (ls : List (List ℕ)) → all (is_long 6) ls ≡ true → 7 * length ls ≤ line_bytes ls
unfolding all line_bytes
long_bytes [] h = omega arith
long_bytes (l ∷ ls) h =
    let here = and_left (is_long 6 l) (all (is_long 6) ls) h in
    let n : 6 ≤ length l = leb-true _ _ (and_left (leb 6 (length l)) (all is_digit l) here) in
    let ih = long_bytes ls (and_right (is_long 6 l) (all (is_long 6) ls) h) in
    omega arith

pub long_few : (g : List ℕ) → all (is_long 6) (lines_of g) ≡ true → 7 * length (lines_of g) ≤ length g + 1
long_few g h = let a = long_bytes (lines_of g) h in let b = lines_bytes (length g) g (omega arith) in omega arith
