-- Files whose lines end either way (document 02, L1).
--   lines_kept         carriage returns put before line feeds change no line
--   lines_read         lines written with either end are read as they were written
--   whole_is           question 3 is answered yes exactly for files of frames, each ended either way
--   writes_digits      what is written of a number is digits alone
--   frame2_plain, frame4_plain, frame6_plain, frame8_plain, frame_of4_plain    a frame at the front of a text: a whole line that ends with a line feed alone
--   frame4_line, frame6_line, frame_of4_line    a frame at the front of a text: its first line, read as it was written
--   feeds_as_before    without carriage returns the lines are document 03's
use mathlib.Core.Path.{◌≡◌, refl, sym, ap, ◌∙◌}
use mathlib.Core.Bool.{Bool, true, false, ◌&&◌, not, and-false}
use mathlib.Core.List.{List, [], ◌∷◌, ◌++◌}
use Prim.Native.Nat.{ℕ, zero, suc, ◌+◌, ◌/◌, ◌%◌, ◌≤◌, ◌<◌}
use native.Mathlib.Omega.{arith}
use lib.Dec.{ltb, eqb}
use lib.ListN.{length, get_or}
use borrow.Author.Tests.{eqb-true, eqb-false, ne_eqb, ltb-true, ltb-false, le-leb, not-true}
use Rattle.counting.specs.Tests.{pick, all, among}
use Rattle.counting.proofs.Booleans.{and_two, and_three, or_right, or_false_left, or_false_right, by_test, true_false}
use Rattle.counting.proofs.Membership.{all_each, each_all, all_append}
use Rattle.frames.specs.Frames.{is_in, is_digit, is_cr_lf, with_byte, lines_of, ends_whole, is_frame, is_whole_file, digit_byte, hex_bytes, frame2, frame4, frame6, frame8, frame_of4}
use Rattle.frames.specs.EitherEnd.{returns_from, LinesKept, EndedLine, ended, end_bytes, text_of, bytes_of, is_inner, LinesRead, WholeIs, feed_lines, FeedsAsBefore, is_plain_text, WritesDigits}
use Rattle.frames.proofs.LineEnds.{digit_other, by_front, ends_more, feed_ends}

-- CARRIAGE RETURNS PUT IN
module _ (z : ℕ → Bool) where
  length_from : (b i : ℕ) (f : List ℕ) → length f ≤ length (returns_from b i z f)
  unfolding returns_from
  length_from b i [] = omega arith
  length_from b i (c ∷ cs) =
      let h = length_from c (suc i) cs in
      by_test (eqb c 10 && not (eqb b 13) && z i) (λ t. rw t (omega arith)) (λ t. rw t (omega arith))

  -- none is put in behind a carriage return
  front_kept : (i : ℕ) (f : List ℕ) → get_or (returns_from 13 i z f) 0 0 ≡ get_or f 0 0
  unfolding returns_from
  front_kept i [] = refl
  front_kept i (c ∷ cs) = rw (and-false (eqb c 10))

  crlf_kept : (c i : ℕ) (f : List ℕ) → is_cr_lf c (returns_from c i z f) ≡ is_cr_lf c f
  crlf_kept c i f = by_test (eqb c 13) (λ e. rw (eqb-true c 13 e, front_kept i f)) (λ e. rw e)

  lines_from : (b i : ℕ) (f : List ℕ) → lines_of (returns_from b i z f) ≡ lines_of f
  unfolding returns_from lines_of
  lines_from b i [] = refl
  lines_from b i (c ∷ cs) =
      by_test (eqb c 10 && not (eqb b 13) && z i)
      (λ t. rw t (rw (eqb-true c 10 (and_three (eqb c 10) (not (eqb b 13)) (z i) t).0) (ap (λ (ls : List (List ℕ)). [] ∷ ls) (lines_from 10 (suc i) cs))))
      (λ t. rw (t, crlf_kept c (suc i) cs, lines_from c (suc i) cs))

  ends_same : (c i : ℕ) (f : List ℕ) → ends_whole (returns_from c i z f) ≡ ends_whole f → ends_whole (c ∷ returns_from c i z f) ≡ ends_whole (c ∷ f)
  unfolding returns_from
  ends_same c i [] h = refl
  ends_same c i (d ∷ ds) h =
      let m = length_from c i (d ∷ ds) in
      ends_more c (returns_from c i z (d ∷ ds)) (omega arith) ∙ h ∙ sym (ends_more c (d ∷ ds) (omega arith))

  ends_from : (b i : ℕ) (f : List ℕ) → ends_whole (returns_from b i z f) ≡ ends_whole f
  unfolding returns_from
  ends_from b i [] = refl
  ends_from b i (c ∷ cs) =
      let h = ends_same c (suc i) cs (ends_from c (suc i) cs) in
      by_test (eqb c 10 && not (eqb b 13) && z i)
      (λ t. rw t (ends_more 13 (c ∷ returns_from c (suc i) z cs) (omega arith) ∙ h)) (λ t. rw t h)

pub lines_kept : LinesKept
lines_kept z f = (lines_from z 0 0 f, ends_from z 0 0 f, length_from z 0 0 f)

-- ONE LINE, and then others
inner_byte : (c : ℕ) (cs : List ℕ) → all is_inner (c ∷ cs) ≡ true → (eqb c 10 ≡ false) × (eqb c 13 ≡ false) × (all is_inner cs ≡ true)
unfolding all
inner_byte c cs h =
    let r = and_three (not (eqb c 10)) (not (eqb c 13)) (all is_inner cs) h in
    (not-true _ r.0, not-true _ r.1, r.2)

line_read : (l : List ℕ) (z : Bool) (rest : List ℕ) → all is_inner l ≡ true → lines_of (l ++ (end_bytes z ++ rest)) ≡ l ∷ lines_of rest
unfolding lines_of
line_read [] true rest h = refl
line_read [] false rest h = refl
line_read (c ∷ cs) z rest h = let r = inner_byte c cs h in rw (r.0, r.1, line_read cs z rest r.2)

line_ended : (l : List ℕ) (z : Bool) (rest : List ℕ) → ends_whole (l ++ (end_bytes z ++ rest)) ≡ ends_whole rest
line_ended [] true rest = ends_more 13 (10 ∷ rest) (omega arith) ∙ feed_ends rest
line_ended [] false rest = feed_ends rest
line_ended (c ∷ cs) z rest = ends_more c (cs ++ (end_bytes z ++ rest)) (more cs z) ∙ line_ended cs z rest
  where
    more : (cs : List ℕ) (z : Bool) → 0 < length (cs ++ (end_bytes z ++ rest))
    more [] true = omega arith
    more [] false = omega arith
    more (d ∷ ds) z = omega arith

pub lines_read : LinesRead
unfolding text_of bytes_of all lines_of ends_whole
lines_read [] h = (refl, refl)
lines_read (l ∷ ls) h =
    let r = and_two (all is_inner l.bytes) (all (all is_inner) (bytes_of ls)) h in
    let ih = lines_read ls r.1 in (
      line_read l.bytes l.cr_lf (text_of ls) r.0 ∙ ap (λ (ms : List (List ℕ)). l.bytes ∷ ms) ih.0,
      line_ended l.bytes l.cr_lf (text_of ls) ∙ ih.1,
    )

-- THE LINES OF A FILE, each with the end it has; a last line without one gets a line feed
with_front : ℕ → List EndedLine → List EndedLine
with_front c [] = ended (c ∷ []) false ∷ []
with_front c (l ∷ ls) = ended (c ∷ l.bytes) l.cr_lf ∷ ls

with_cr_lf : List EndedLine → List EndedLine
with_cr_lf [] = []
with_cr_lf (l ∷ ls) = ended l.bytes true ∷ ls

ended_lines : List ℕ → List EndedLine
ended_lines [] = []
ended_lines (c ∷ cs) =
    pick (is_cr_lf c cs) (with_cr_lf (ended_lines cs)) (pick (eqb c 10) (ended [] false ∷ ended_lines cs) (with_front c (ended_lines cs)))

crlf_bytes : (ls : List EndedLine) → bytes_of (with_cr_lf ls) ≡ bytes_of ls
unfolding bytes_of with_cr_lf
crlf_bytes [] = refl
crlf_bytes (l ∷ ls) = refl

front_bytes : (c : ℕ) (ls : List EndedLine) → bytes_of (with_front c ls) ≡ with_byte c (bytes_of ls)
unfolding bytes_of with_front
front_bytes c [] = refl
front_bytes c (l ∷ ls) = refl

ended_bytes : (f : List ℕ) → bytes_of (ended_lines f) ≡ lines_of f
unfolding ended_lines lines_of bytes_of
ended_bytes [] = refl
ended_bytes (c ∷ cs) =
    let ih = ended_bytes cs in
    by_front c cs (λ r. rw r (crlf_bytes (ended_lines cs) ∙ ih)) (λ r t. rw (r, t, ih)) (λ r t. rw (r, t) (front_bytes c (ended_lines cs) ∙ ap (with_byte c) ih))

-- a carriage return before a line feed, and a byte before a line
crlf_text : (cs : List ℕ) → eqb (get_or cs 0 0) 10 ≡ true → text_of (ended_lines cs) ≡ cs → text_of (with_cr_lf (ended_lines cs)) ≡ 13 ∷ cs
unfolding text_of with_cr_lf ended_lines
crlf_text [] e h = true_false e refl
crlf_text (d ∷ ds) e h = let x : d ≡ 10 = eqb-true d 10 e in rw x (ap (λ (f : List ℕ). 13 ∷ f) (rw x at h))

front_text : (c d : ℕ) (ds : List ℕ) (ls : List EndedLine) → text_of ls ≡ d ∷ ds → text_of (with_front c ls) ≡ c ∷ d ∷ ds
unfolding text_of with_front
front_text c d ds [] h = let z : ◌≡◌ {A = ℕ} 0 1 = cc in absurd (omega arith)
front_text c d ds (l ∷ ls) h = ap (λ (f : List ℕ). c ∷ f) h

ended_text : (f : List ℕ) → ends_whole f ≡ true → text_of (ended_lines f) ≡ f
unfolding text_of ended_lines
ended_text [] h = refl
ended_text (c ∷ []) h = rw (eqb-true c 10 (unfold ends_whole in h))
ended_text (c ∷ d ∷ ds) h =
    let ih = ended_text (d ∷ ds) (sym (ends_more c (d ∷ ds) (omega arith)) ∙ h) in
    by_front c (d ∷ ds)
    (λ r.
    let p = and_two (eqb c 13) (eqb d 10) r in
    rw r (crlf_text (d ∷ ds) p.1 ih ∙ ap (λ (x : ℕ). x ∷ d ∷ ds) (sym (eqb-true c 13 p.0))))
    (λ r e. rw (r, e, eqb-true c 10 e) (ap (λ (f : List ℕ). 10 ∷ f) ih)) (λ r e. rw (r, e) (front_text c d ds (ended_lines (d ∷ ds)) ih))

-- FRAMES have neither byte in them
digits_inner : (l : List ℕ) → all is_digit l ≡ true → all is_inner l ≡ true
digits_inner l d = each_all is_inner l (λ c i. let e = all_each is_digit l d c i in rw (digit_other c 10 e refl, digit_other c 13 e refl))

frame_inner : (l : List ℕ) → is_frame l ≡ true → all is_inner l ≡ true
frame_inner l h = digits_inner l (and_three (ltb 0 (length l)) (eqb (length l % 2) 0) (all is_digit l) h).2

pub whole_is : WholeIs
whole_is f = (there, back)
  where
    there : is_whole_file f ≡ true → (ls : List EndedLine) × ((f ≡ text_of ls) × (all is_frame (bytes_of ls) ≡ true))
    there h =
        let r = and_two (ends_whole f) (all is_frame (lines_of f)) h in
        (ended_lines f, (sym (ended_text f r.0), ap (all is_frame) (ended_bytes f) ∙ r.1))

    back : (ls : List EndedLine) × ((f ≡ text_of ls) × (all is_frame (bytes_of ls) ≡ true)) → is_whole_file f ≡ true
    back m =
        let inner = each_all (all is_inner) (bytes_of m.0) (λ l i. frame_inner l (all_each is_frame (bytes_of m.0) m.1.1 l i)) in
        let r = lines_read m.0 inner in
        rw (m.1.0, r.0, r.1) m.1.1

-- WITHOUT CARRIAGE RETURNS
pub feeds_as_before : FeedsAsBefore
unfolding lines_of feed_lines among
feeds_as_before [] h = refl
feeds_as_before (c ∷ cs) h =
    let n : eqb c 13 ≡ false = ne_eqb c 13 (λ e. eqb-false 13 c (or_false_left (eqb 13 c) (among 13 cs) h) (sym e)) in
    rw (n, feeds_as_before cs (or_false_right (eqb 13 c) (among 13 cs) h))

-- TEXTS AS THEY ARE WRITTEN
inner_among : (l r : List ℕ) → all is_inner l ≡ true → among 13 (l ++ r) ≡ among 13 r
unfolding among
inner_among [] r h = refl
inner_among (c ∷ cs) r h =
    let p = inner_byte c cs h in
    rw (ne_eqb 13 c (λ e. eqb-false c 13 p.1 (sym e))) (inner_among cs r p.2)

digits_line : (l r : List ℕ) → all is_digit l ≡ true → lines_of (l ++ 10 ∷ r) ≡ l ∷ lines_of r
digits_line l r h = line_read l false r (digits_inner l h)

line_plain : (l r : List ℕ) → is_frame l ≡ true → is_plain_text (l ++ 10 ∷ r) ≡ is_plain_text r
unfolding all among
line_plain l r h =
    let i = frame_inner l h in
    rw (line_ended l false r, line_read l false r i, inner_among l (10 ∷ r) i, h)

digit_written : (d : ℕ) → d < 16 → is_digit (digit_byte d) ≡ true
digit_written d h =
    by_test (ltb d 10)
    (λ t. let k = ltb-true d 10 t in rw (t, le-leb 48 (48 + d) (omega arith), le-leb (48 + d) 57 (omega arith)))
    (λ t.
    let k = ltb-false d 10 t in
    rw (t, le-leb 65 (55 + d) (omega arith), le-leb (55 + d) 70 (omega arith)) (or_right (is_in 48 57 (55 + d)) true refl))

pub writes_digits : WritesDigits
unfolding hex_bytes all
writes_digits zero x = refl
writes_digits (suc n) x =
    all_append is_digit (hex_bytes n (x / 16)) (digit_byte (x % 16) ∷ []) (writes_digits n (x / 16)) (rw (digit_written (x % 16) (omega arith)))

digits_two : (m n x y : ℕ) → all is_digit (hex_bytes m x ++ hex_bytes n y) ≡ true
digits_two m n x y = all_append is_digit (hex_bytes m x) (hex_bytes n y) (writes_digits m x) (writes_digits n y)

module _ (k : ℕ) where
  pub frame2_plain : (r : List ℕ) → is_plain_text (frame2 k ++ r) ≡ is_plain_text r
  unfolding hex_bytes
  frame2_plain r = line_plain (hex_bytes 2 k) r (writes_digits 2 k)

  pub frame4_plain : (a : ℕ) (r : List ℕ) → is_plain_text (frame4 k a ++ r) ≡ is_plain_text r
  unfolding hex_bytes
  frame4_plain a r = line_plain (hex_bytes 2 k ++ hex_bytes 2 a) r (digits_two 2 2 k a)

  pub frame4_line : (a : ℕ) (r : List ℕ) → lines_of (frame4 k a ++ r) ≡ (hex_bytes 2 k ++ hex_bytes 2 a) ∷ lines_of r
  unfolding hex_bytes
  frame4_line a r = digits_line (hex_bytes 2 k ++ hex_bytes 2 a) r (digits_two 2 2 k a)

  digits_three : (a b : ℕ) → all is_digit (hex_bytes 2 k ++ hex_bytes 2 a ++ hex_bytes 2 b) ≡ true
  digits_three a b = all_append is_digit (hex_bytes 2 k ++ hex_bytes 2 a) (hex_bytes 2 b) (digits_two 2 2 k a) (writes_digits 2 b)

  pub frame6_plain : (a b : ℕ) (r : List ℕ) → is_plain_text (frame6 k a b ++ r) ≡ is_plain_text r
  unfolding hex_bytes
  frame6_plain a b r = line_plain (hex_bytes 2 k ++ hex_bytes 2 a ++ hex_bytes 2 b) r (digits_three a b)

  pub frame6_line : (a b : ℕ) (r : List ℕ) → lines_of (frame6 k a b ++ r) ≡ (hex_bytes 2 k ++ hex_bytes 2 a ++ hex_bytes 2 b) ∷ lines_of r
  unfolding hex_bytes
  frame6_line a b r = digits_line (hex_bytes 2 k ++ hex_bytes 2 a ++ hex_bytes 2 b) r (digits_three a b)

  pub frame8_plain : (a b c : ℕ) (r : List ℕ) → is_plain_text (frame8 k a b c ++ r) ≡ is_plain_text r
  unfolding hex_bytes
  frame8_plain a b c r =
      line_plain (hex_bytes 2 k ++ hex_bytes 2 a ++ hex_bytes 2 b ++ hex_bytes 2 c) r
      (all_append is_digit (hex_bytes 2 k ++ hex_bytes 2 a ++ hex_bytes 2 b) (hex_bytes 2 c) (digits_three a b) (writes_digits 2 c))

  pub frame_of4_plain : (v : ℕ) (r : List ℕ) → is_plain_text (frame_of4 k v ++ r) ≡ is_plain_text r
  unfolding hex_bytes
  frame_of4_plain v r = line_plain (hex_bytes 2 k ++ hex_bytes 4 v) r (digits_two 2 4 k v)

  pub frame_of4_line : (v : ℕ) (r : List ℕ) → lines_of (frame_of4 k v ++ r) ≡ (hex_bytes 2 k ++ hex_bytes 4 v) ∷ lines_of r
  unfolding hex_bytes
  frame_of4_line v r = digits_line (hex_bytes 2 k ++ hex_bytes 4 v) r (digits_two 2 4 k v)
