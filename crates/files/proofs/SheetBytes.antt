-- A standing sheet's bytes tell its number of cameras, its greatest number of pairs and every mark.
--   sheet_found                   a number of pairs and marks that were found, written as a sheet; how many bytes it takes
--   plan_sheet_size               how many bytes it takes behind a plan, with that
--   sheets_alike, alike_sheets    two sheets are the same bytes exactly when cameras, greatest number and marks are
--   sheet_number                  the number in its header is the greatest number of pairs
--   sheet_line                    camera u's line, 5 + 7 * u bytes from the front, has u and its mark
use mathlib.Core.Path.{◌≡◌, refl, sym, ap, subst, ◌∙◌}
use mathlib.Core.Logic.{inl, inr}
use mathlib.Core.Bool.{true}
use mathlib.Core.List.{List, [], ◌∷◌, ◌++◌}
use Prim.Native.Nat.{ℕ, zero, suc, ◌+◌, ◌*◌, ◌/◌, ◌%◌, ◌≤◌, ◌<◌}
use native.Mathlib.Omega.{arith}
use lib.Dec.{eqb}
use lib.ListN.{length, get_or, drop, length-append}
use lib.Seq.{drop-cons, drop-drop}
use borrow.Author.Tests.{eqb-true, eq-eqb}
use Rattle.formats.specs.Kinds.{mark_kind, sheet_end, sheet_kind}
use Rattle.counting.specs.Tests.{same, up_from, below}
use Rattle.counting.specs.Lists.{In}
use Rattle.counting.specs.declared.Pair.{Pair}
use Rattle.counting.proofs.Booleans.{and_both, and_two, and_three, true_false}
use Rattle.counting.proofs.Range.{length_up}
use Rattle.frames.specs.Frames.{hex_from, hex_at, digit_byte, hex_bytes, frame4, frame6, frame_of4}
use Rattle.frames.proofs.Writes.{two_value}
use Rattle.matching.specs.Stock.{Stock, greatest, mark_of, marks_from, marks_of}
use Rattle.matching.proofs.Marks.{mark_low}
use Rattle.files.specs.StockFile.{mark_lines, sheet_text, sheet_with, alike, plan_text, plan_and_sheet}
use Rattle.files.proofs.AnswerLines.{plan_size, sheet_size}

-- DIGITS
two_digits : (x y : ℕ) → x < 256 → y < 256 → digit_byte (x / 16 % 16) ≡ digit_byte (y / 16 % 16) → digit_byte (x % 16) ≡ digit_byte (y % 16) → x ≡ y
unfolding hex_bytes
two_digits x y h k p q =
    let e : hex_bytes 2 x ≡ hex_bytes 2 y = ap (λ (a : ℕ). a ∷ digit_byte (x % 16) ∷ []) p ∙ ap (λ (b : ℕ). digit_byte (y / 16 % 16) ∷ b ∷ []) q in
    sym (two_value x h) ∙ ap (hex_from 0) e ∙ two_value y k

-- LINES
-- past i lines of marks stand the lines of the marks past i
lines_past : (u i : ℕ) (ms r : List ℕ) → i ≤ length ms → drop (7 * i) (mark_lines u ms ++ r) ≡ mark_lines (u + i) (drop i ms) ++ r
unfolding mark_lines hex_bytes
lines_past u zero ms r h = ap (λ (k : ℕ). mark_lines k ms ++ r) (omega arith)
lines_past u (suc i) [] r h = absurd (omega arith)
lines_past u (suc i) (m ∷ ms) r h =
    let e : 7 * suc i ≡ 7 + 7 * i = omega arith in
    rw (e, ← drop-drop (7 * i) 7 (mark_lines u (m ∷ ms) ++ r)) (lines_past (suc u) i ms r (omega arith) ∙ ap (λ (k : ℕ). mark_lines k (drop i ms) ++ r) (omega arith))

lines_inj : (u a b : ℕ) (ms ls : List ℕ) → ((x : ℕ) → In x ms → x < 256) → ((x : ℕ) → In x ls → x < 256) →
    mark_lines u ms ++ frame_of4 sheet_end a ≡ mark_lines u ls ++ frame_of4 sheet_end b → ms ≡ ls
unfolding mark_lines hex_bytes
lines_inj u a b [] [] h k e = refl
lines_inj u a b [] (l ∷ ls) h k e = let z : ◌≡◌ {A = ℕ} 70 51 = ap (λ (t : List ℕ). get_or t 1 0) e in absurd (omega arith)
lines_inj u a b (m ∷ ms) [] h k e = let z : ◌≡◌ {A = ℕ} 51 70 = ap (λ (t : List ℕ). get_or t 1 0) e in absurd (omega arith)
lines_inj u a b (m ∷ ms) (l ∷ ls) h k e =
    let one : m ≡ l =
    two_digits m l (h m (inl refl)) (k l (inl refl)) (ap (λ (t : List ℕ). get_or t 4 0) e) (ap (λ (t : List ℕ). get_or t 5 0) e) in
    let rest : ms ≡ ls = lines_inj (suc u) a b ms ls (λ x i. h x (inr i)) (λ x i. k x (inr i)) (ap (λ (t : List ℕ). drop 7 t) e) in
    ap (λ (x : ℕ). x ∷ ms) one ∙ ap (λ (t : List ℕ). l ∷ t) rest

text_inj : (a b c d : ℕ) (ms ls : List ℕ) → a < 256 → b < 256 → ((x : ℕ) → In x ms → x < 256) → ((x : ℕ) → In x ls → x < 256) →
    frame4 sheet_kind a ++ mark_lines 0 ms ++ frame_of4 sheet_end c ≡ frame4 sheet_kind b ++ mark_lines 0 ls ++ frame_of4 sheet_end d → (a ≡ b) × (ms ≡ ls)
unfolding hex_bytes
text_inj a b c d ms ls p q h k e = (
  two_digits a b p q (ap (λ (t : List ℕ). get_or t 2 0) e) (ap (λ (t : List ℕ). get_or t 3 0) e),
  lines_inj 0 c d ms ls h k (ap (λ (t : List ℕ). drop 5 t) e),
)

-- MARKS
marks_low : (fs : List Pair) (us : List ℕ) (x : ℕ) → In x (marks_from fs us) → x < 256
unfolding marks_from
marks_low fs [] x m = absurd m
marks_low fs (u ∷ us) x (inl e) = omega (arith, mark_low fs u)
marks_low fs (u ∷ us) x (inr m) = marks_low fs us x m

marks_length : (fs : List Pair) (us : List ℕ) → length (marks_from fs us) ≡ length us
unfolding marks_from
marks_length fs [] = refl
marks_length fs (u ∷ us) = ap suc (marks_length fs us)

marks_at : (fs : List Pair) (a n i : ℕ) → i < n → get_or (marks_from fs (up_from a n)) i 0 ≡ mark_of fs (a + i)
unfolding marks_from up_from
marks_at fs a zero i h = absurd (omega arith)
marks_at fs a (suc n) zero h = ap (mark_of fs) (omega arith)
marks_at fs a (suc n) (suc i) h = marks_at fs (suc a) n i (omega arith) ∙ ap (mark_of fs) (omega arith)

same_is : (xs ys : List ℕ) → same xs ys ≡ true → xs ≡ ys
unfolding same
same_is [] [] e = refl
same_is [] (y ∷ ys) e = true_false e refl
same_is (x ∷ xs) [] e = true_false e refl
same_is (x ∷ xs) (y ∷ ys) e =
    let r = and_two (eqb x y) (same xs ys) e in ap (λ (z : ℕ). z ∷ xs) (eqb-true x y r.0) ∙ ap (λ (t : List ℕ). y ∷ t) (same_is xs ys r.1)

is_same : (xs : List ℕ) → same xs xs ≡ true
unfolding same
is_same [] = refl
is_same (x ∷ xs) = and_both _ _ (eq-eqb x x refl) (is_same xs)

-- SHEETS
pub sheet_found : (n : ℕ) (fs : List Pair) → (sheet_with (greatest fs) (marks_of n fs) ≡ sheet_text n fs) × (length (sheet_text n fs) ≡ 12 + 7 * n)
sheet_found n fs =
    let long : length (marks_of n fs) ≡ n = marks_length fs (below n) ∙ length_up 0 n in
    let same : sheet_with (greatest fs) (marks_of n fs) ≡ sheet_text n fs =
    ap (λ (k : ℕ). frame4 sheet_kind (greatest fs) ++ mark_lines 0 (marks_of n fs) ++ frame_of4 sheet_end k) long in
    (same, sym (ap (λ (t : List ℕ). length t) same) ∙ sheet_size (greatest fs) (marks_of n fs) ∙ ap (λ (k : ℕ). 12 + 7 * k) long)

pub plan_sheet_size : (s : Stock) (ps : List Pair) → length (plan_and_sheet s ps) ≡ 24 + 7 * (length ps + s.cameras)
plan_sheet_size s ps =
    omega (arith, length-append (plan_text ps) (sheet_text s.cameras s.fits), plan_size ps, (sheet_found s.cameras s.fits).1)

pub sheets_alike : (s t : Stock) → greatest s.fits < 256 → greatest t.fits < 256 →
    sheet_text s.cameras s.fits ≡ sheet_text t.cameras t.fits → alike s t ≡ true
sheets_alike s t h k e =
    let r =
    text_inj (greatest s.fits) (greatest t.fits) s.cameras t.cameras (marks_of s.cameras s.fits) (marks_of t.cameras t.fits) h k
    (marks_low s.fits (below s.cameras)) (marks_low t.fits (below t.cameras)) e in
    let n : s.cameras ≡ t.cameras =
    sym (length_up 0 s.cameras) ∙ sym (marks_length s.fits (below s.cameras)) ∙ ap (λ (z : List ℕ). length z) r.1 ∙
    marks_length t.fits (below t.cameras) ∙ length_up 0 t.cameras in
    and_both _ _ (and_both _ _ (eq-eqb _ _ n) (eq-eqb _ _ r.0))
    (subst (λ (z : List ℕ). same (marks_of s.cameras s.fits) z ≡ true) r.1 (is_same (marks_of s.cameras s.fits)))

pub alike_sheets : (s t : Stock) → alike s t ≡ true → sheet_text s.cameras s.fits ≡ sheet_text t.cameras t.fits
alike_sheets s t e =
    let r = and_three (eqb s.cameras t.cameras) (eqb (greatest s.fits) (greatest t.fits)) (same (marks_of s.cameras s.fits) (marks_of t.cameras t.fits)) e in
    ap (λ (z : ℕ). frame4 sheet_kind z ++ mark_lines 0 (marks_of s.cameras s.fits) ++ frame_of4 sheet_end s.cameras) (eqb-true _ _ r.1) ∙
    ap (λ (z : List ℕ). frame4 sheet_kind (greatest t.fits) ++ mark_lines 0 z ++ frame_of4 sheet_end s.cameras) (same_is _ _ r.2) ∙
    ap (λ (z : ℕ). frame4 sheet_kind (greatest t.fits) ++ mark_lines 0 (marks_of t.cameras t.fits) ++ frame_of4 sheet_end z) (eqb-true _ _ r.0)

pub sheet_number : (n : ℕ) (fs : List Pair) → greatest fs < 256 → hex_at 2 2 (sheet_text n fs) ≡ greatest fs
unfolding hex_bytes
sheet_number n fs h = two_value (greatest fs) h

pub sheet_line : (n u : ℕ) (fs : List Pair) → u < n → u < 256 →
    (hex_at (5 + 7 * u + 2) 2 (sheet_text n fs) ≡ u) × (hex_at (5 + 7 * u + 4) 2 (sheet_text n fs) ≡ mark_of fs u)
unfolding mark_lines hex_bytes
sheet_line n u fs h k =
    let l : u < length (marks_of n fs) = omega (arith, marks_length fs (below n), length_up 0 n) in
    let z : 0 + u ≡ u = omega arith in
    let past : drop (5 + 7 * u) (sheet_text n fs) ≡ frame6 mark_kind u (mark_of fs u) ++ mark_lines (suc u) (drop (suc u) (marks_of n fs)) ++ frame_of4 sheet_end n =
    rw (← drop-drop (7 * u) 5 (sheet_text n fs)) (lines_past 0 u (marks_of n fs) (frame_of4 sheet_end n) (omega arith) ∙ rw (drop-cons (marks_of n fs) u 0 l, marks_at fs 0 n u h, z)) in (
      rw (← drop-drop 2 (5 + 7 * u) (sheet_text n fs), past) (two_value u k),
      rw (← drop-drop 4 (5 + 7 * u) (sheet_text n fs), past) (two_value (mark_of fs u) (omega (arith, mark_low fs u))),
    )
