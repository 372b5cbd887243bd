-- Files of lines, a frame a line, and the questions put to a call (document 01, "Frames" and "Questions put to a call"; the definitions are
-- document 03's, with the line ends of document 02, L1).
--   is_in a b x                                 x is a to b
--   or_else n m, unless z n                     of two refusals the first, 0 being none; the refusal n, none where z is true
--   with_byte c ls                              a byte at the front of the first line
--   is_cr_lf c cs                                c is a carriage return, and a line feed stands right behind it
--   lines_of f                                  the lines of a file
--   ends_whole f                                the last line is ended too
--   is_digit c, is_frame l, is_whole_file f        question 3: of a byte, of a line, of a file
--   digit_of c, hex_from m l                     a digit's value; m with the digits of l behind it
--   hex_at i n l, kind_of l                      the number in n digits from the i-th on; a frame's kind, in its first two
--   Form                                       a kind of file: its header, body and end frames
--   graph_form, stock_form                       graphs and stocks
--   path_form, barrier_form                      certificates: paths and barriers
--   plan_form                                   plans handed in
--   is_frame_of k n l                            l is of kind k, with n digits after it
--   first_line f, rest_lines f                   the first line; those after it
--   last_line f, body_lines f                    the last of those; those between
--   has_header k f                              question 4
--   later_fit ks n ls, bodies_fit ks n ls        the lines are of the first of these kinds; of the first, then of the second
--   has_body k f, count_agrees f                 questions 6 and 7
--   shape_fault k f z                           questions 2, 3, 4, then the answer to 5, then 6 and 7: the first answered no
--   pair_in l, pairs_in k ls                     a body frame as two numbers; the frames of one kind
--   numbers_in ls                               body frames as a number each
--   digit_byte d, hex_bytes n x                  a digit as it is written; x in n digits
--   frame_bytes xs                              a frame as it is written: each of its numbers in two digits, the kind's first
--   frame2 k, frame4 k a, frame6 k a b, frame8 k a b c     the kind alone, with one number, with two, with three
--   frame_of4 k v                               and with one number in four digits
use Rattle.std.specs.Prelude.{Bool, true, false, ◌&&◌, ◌||◌, List, [], ◌∷◌, ◌++◌, ℕ, zero, suc, ◌+◌, ◌*◌, ◌-◌, ◌/◌, ◌%◌, ltb, leb, eqb, length, get_or, take, drop}
use Rattle.formats.specs.Kinds.{arc_kind, barrier_end, barrier_kind, class_kind, fit_kind, graph_end, graph_kind, lit_kind, pair_kind, path_end, path_kind, plan_end, plan_kind, step_kind, stock_end, stock_kind}
use Rattle.formats.specs.Limits.{file_most}
use Rattle.counting.specs.Tests.{pick, all}
use Rattle.counting.specs.Pairs.{pair}
use Rattle.counting.specs.declared.Pair.{Pair}

abbrev pub is_in : (low high x : ℕ) → Bool
is_in a b x = leb a x && leb x b

abbrev pub or_else : ℕ → ℕ → ℕ
or_else n m = pick (eqb n 0) m n

abbrev pub unless : Bool → ℕ → ℕ
unless z n = pick z 0 n

-- LINES, each ended by a line feed or by a carriage return and a line feed; whether the last one is
abbrev pub with_byte : ℕ → List (List ℕ) → List (List ℕ)
with_byte c [] = (c ∷ []) ∷ []
with_byte c (l ∷ ls) = (c ∷ l) ∷ ls

abbrev pub is_cr_lf : ℕ → List ℕ → Bool
is_cr_lf c cs = eqb c 13 && eqb (get_or cs 0 0) 10

unfoldable pub lines_of : List ℕ → List (List ℕ)
lines_of [] = []
lines_of (c ∷ cs) = pick (is_cr_lf c cs) (lines_of cs) (pick (eqb c 10) ([] ∷ lines_of cs) (with_byte c (lines_of cs)))

unfoldable pub ends_whole : List ℕ → Bool
ends_whole [] = true
ends_whole (c ∷ []) = eqb c 10
ends_whole (c ∷ d ∷ cs) = ends_whole (d ∷ cs)

abbrev pub is_digit : ℕ → Bool
is_digit c = is_in 48 57 c || is_in 65 70 c

abbrev pub is_frame : List ℕ → Bool
is_frame l = ltb 0 (length l) && eqb (length l % 2) 0 && all is_digit l

-- 2 and 3
abbrev pub is_whole_file : List ℕ → Bool
is_whole_file f = ends_whole f && all is_frame (lines_of f)

-- NUMBERS of digits
abbrev pub digit_of : ℕ → ℕ
digit_of c = pick (leb c 57) (c - 48) (c - 55)

unfoldable pub hex_from : (sum : ℕ) → List ℕ → ℕ
hex_from n [] = n
hex_from n (c ∷ cs) = hex_from (16 * n + digit_of c) cs

abbrev pub hex_at : (from size : ℕ) → List ℕ → ℕ
hex_at i n l = hex_from 0 (take n (drop i l))

abbrev pub kind_of : List ℕ → ℕ
kind_of l = hex_at 0 2 l

-- A KIND OF FILE: header's kind and digits after it, body kinds in the table's order with digits after each, end's kind
pub record Form : Type 0 where
  pub header : ℕ
  pub header_size : ℕ
  pub bodies : List ℕ
  pub body_size : ℕ
  pub end : ℕ

abbrev pub graph_form : Form
graph_form = record { header = graph_kind; header_size = 4; bodies = arc_kind ∷ []; body_size = 4; end = graph_end }

abbrev pub stock_form : Form
stock_form = record { header = stock_kind; header_size = 2; bodies = fit_kind ∷ lit_kind ∷ []; body_size = 4; end = stock_end }

abbrev pub path_form : Form
path_form = record { header = path_kind; header_size = 0; bodies = step_kind ∷ []; body_size = 4; end = path_end }

abbrev pub barrier_form : Form
barrier_form = record { header = barrier_kind; header_size = 0; bodies = class_kind ∷ []; body_size = 4; end = barrier_end }

abbrev pub plan_form : Form
plan_form = record { header = plan_kind; header_size = 2; bodies = pair_kind ∷ []; body_size = 4; end = plan_end }

abbrev pub is_frame_of : (kind size : ℕ) → List ℕ → Bool
is_frame_of k n l = eqb (kind_of l) k && eqb (length l) (2 + n)

abbrev pub first_line : (file : List ℕ) → List ℕ
first_line f = get_or (lines_of f) 0 []

abbrev pub rest_lines : (file : List ℕ) → List (List ℕ)
rest_lines f = drop 1 (lines_of f)

abbrev pub last_line : (file : List ℕ) → List ℕ
last_line f = get_or (rest_lines f) (length (rest_lines f) - 1) []

abbrev pub body_lines : (file : List ℕ) → List (List ℕ)
body_lines f = take (length (rest_lines f) - 1) (rest_lines f)

-- 4: a header of the right kind and length
abbrev pub has_header : Form → (file : List ℕ) → Bool
has_header k f = ltb 0 (length (lines_of f)) && is_frame_of k.header k.header_size (first_line f)

-- 6: the last line, other than the header, the end frame; each line between a body frame, in the table's order of kinds
unfoldable pub later_fit : (kinds : List ℕ) → (size : ℕ) → List (List ℕ) → Bool
later_fit [] n ls = false
later_fit (k ∷ ks) n ls = all (is_frame_of k n) ls

unfoldable pub bodies_fit : (kinds : List ℕ) → (size : ℕ) → List (List ℕ) → Bool
bodies_fit ks n [] = true
bodies_fit [] n (l ∷ ls) = false
bodies_fit (k ∷ ks) n (l ∷ ls) = pick (is_frame_of k n l) (bodies_fit (k ∷ ks) n ls) (later_fit ks n (l ∷ ls))

abbrev pub has_body : Form → (file : List ℕ) → Bool
has_body k f =
    ltb 0 (length (rest_lines f)) && is_frame_of k.end 4 (last_line f) && bodies_fit k.bodies k.body_size (body_lines f)

-- 7
abbrev pub count_agrees : (file : List ℕ) → Bool
count_agrees f = eqb (hex_at 2 4 (last_line f)) (length (body_lines f))

-- 2, 3, 4, then a question of the header, then 6, 7
abbrev pub shape_fault : Form → (file : List ℕ) → (header_fits : Bool) → ℕ
shape_fault k f z =
    or_else (unless (leb (length f) file_most) 2)
    (or_else (unless (is_whole_file f) 3)
    (or_else (unless (has_header k f) 4) (or_else (unless z 5) (or_else (unless (has_body k f) 6) (unless (count_agrees f) 7)))))

-- BODY frames of a kind as pairs of numbers
abbrev pub pair_in : List ℕ → Pair
pair_in l = pair (hex_at 2 2 l) (hex_at 4 2 l)

unfoldable pub pairs_in : (kind : ℕ) → List (List ℕ) → List Pair
pairs_in k [] = []
pairs_in k (l ∷ ls) = pick (eqb (kind_of l) k) (pair_in l ∷ pairs_in k ls) (pairs_in k ls)

unfoldable pub numbers_in : List (List ℕ) → List ℕ
numbers_in [] = []
numbers_in (l ∷ ls) = hex_at 2 4 l ∷ numbers_in ls

-- WRITING frames
abbrev pub digit_byte : ℕ → ℕ
digit_byte d = pick (ltb d 10) (48 + d) (55 + d)

unfoldable pub hex_bytes : (size value : ℕ) → List ℕ
hex_bytes zero x = []
hex_bytes (suc n) x = hex_bytes n (x / 16) ++ (digit_byte (x % 16) ∷ [])

abbrev pub frame_bytes : (numbers : List ℕ) → List ℕ
frame_bytes [] = 10 ∷ []
frame_bytes (x ∷ xs) = hex_bytes 2 x ++ frame_bytes xs

abbrev pub frame2 : (kind : ℕ) → List ℕ
frame2 k = frame_bytes (k ∷ [])

abbrev pub frame4 : (kind a : ℕ) → List ℕ
frame4 k a = frame_bytes (k ∷ a ∷ [])

abbrev pub frame6 : (kind a b : ℕ) → List ℕ
frame6 k a b = frame_bytes (k ∷ a ∷ b ∷ [])

abbrev pub frame8 : (kind a b c : ℕ) → List ℕ
frame8 k a b c = frame_bytes (k ∷ a ∷ b ∷ c ∷ [])

abbrev pub frame_of4 : (kind value : ℕ) → List ℕ
frame_of4 k v = hex_bytes 2 k ++ hex_bytes 4 v ++ (10 ∷ [])
