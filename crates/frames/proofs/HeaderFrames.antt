-- Questions 2, 3 and 4, and the first line.
--   rest_lines_lem, first_line_lem         the lines after the first, and the first as a part of the file
--   first_number                   a number of the first line, at its place in the file
--   past_short, past_whole         where none of the three is answered no: what 2 and 3 say
--   header_line, second_line       and where the first line is, and the second
--   answer_empty, answer_other, answer_none      the answers to 4: no first line, another one, the header
use mathlib.Core.Path.{◌≡◌, refl, ap, subst, sym, ◌∙◌}
use mathlib.Core.Logic.{◌≢◌}
use mathlib.Core.Bool.{true, false}
use mathlib.Core.List.{List, [], ◌∷◌}
use Prim.Native.Nat.{ℕ, suc, ◌+◌, ◌≤◌}
use native.Mathlib.Omega.{arith}
use lib.Dec.{ltb}
use lib.ListN.{length, drop, drop_of_length-le}
use borrow.Author.Tests.{lt-ltb, ltb-true, ltb-false, le-leb, leb-true}
use Rattle.formats.specs.Limits.{file_most}
use Rattle.counting.proofs.Booleans.{by_test, true_false}
use Rattle.frames.specs.Frames.{lines_of, is_whole_file, hex_at, Form, is_frame_of, first_line, rest_lines, has_header}
use Rattle.frames.specs.Lines.{line_length, part, line_after, LineAt}
use Rattle.frames.specs.Shape.{header_questions, header_fault, HeaderAnswer}
use Rattle.frames.proofs.LinePlaces.{line_here, lines_here, line_after_lem}
use Rattle.frames.proofs.HexNumbers.{hex_part}
use Rattle.frames.proofs.Questions.{accepted, refused, answered_none, answered_refused}
use Rattle.frames.proofs.BodyFrames.{frame_size}

-- THE FIRST LINE
module _ (f : List ℕ) (end next : ℕ) (l : LineAt f 0 end next) where
  lines_both : lines_of f ≡ part 0 end f ∷ lines_of (drop next f)
  lines_both = lines_here l

  pub rest_lines_lem : rest_lines f ≡ lines_of (drop next f)
  rest_lines_lem = rw lines_both

  pub first_line_lem : first_line f ≡ part 0 end f
  first_line_lem = rw lines_both

  pub first_number : (i n : ℕ) → i + n ≤ end → hex_at i n (first_line f) ≡ hex_at i n f
  first_number i n h =
      let z : 0 + i ≡ i = omega arith in
      ap (hex_at i n) first_line_lem ∙ hex_part i n 0 end f (omega arith) ∙ ap (λ (j : ℕ). hex_at j n f) z

  header_at : (k : Form) → has_header k f ≡ is_frame_of k.header k.header_size (part 0 end f)
  header_at k = rw (lines_both, lt-ltb 0 (suc (length (lines_of (drop next f)))) (omega arith))

-- THE ANSWERS
module _ (k : Form) (f : List ℕ) where
  header_none : length f ≡ 0 → has_header k f ≡ false
  unfolding lines_of
  header_none h = let e : f ≡ [] = drop_of_length-le f {i = 0} (omega arith) in rw e

  answer_refused : {n : ℕ} → n ≡ header_fault k f → n ≢ 0 → HeaderAnswer k f n 0
  answer_refused e h = record { says = e; second_line = sym (answered_refused (line_after f 0) h) }

  module _ (h : length f ≤ file_most) where
    module _ (w : is_whole_file f ≡ true) where
      answer_four : has_header k f ≡ false → HeaderAnswer k f 4 0
      answer_four e = answer_refused (sym (refused 4 (header_questions k f) (rw (le-leb _ _ h, w)) e)) (λ z. omega arith)

      pub answer_empty : length f ≡ 0 → HeaderAnswer k f 4 0
      answer_empty e = answer_four (header_none e)

      pub answer_other : (end next : ℕ) → LineAt f 0 end next → is_frame_of k.header k.header_size (part 0 end f) ≡ false → HeaderAnswer k f 4 0
      answer_other end next l i = answer_four (header_at f end next l k ∙ i)

      pub answer_none : (end next : ℕ) → LineAt f 0 end next → is_frame_of k.header k.header_size (part 0 end f) ≡ true → HeaderAnswer k f 0 next
      answer_none end next l i = let e = header_at f end next l k ∙ i in record { says = rw (le-leb _ _ h, w, e); second_line = line_after_lem l }

-- PAST THEM: what 0 says of each question
module _ (k : Form) (f : List ℕ) (e : header_fault k f ≡ 0) where
  pub past_short : length f ≤ file_most
  past_short = leb-true _ _ (accepted 2 (header_questions k f) refl e)

  pub past_whole : is_whole_file f ≡ true
  past_whole = accepted 3 (header_questions k f) refl e

  past_header : has_header k f ≡ true
  past_header = accepted 4 (header_questions k f) refl e

  pub header_line : LineAt f 0 (2 + k.header_size) (line_after f 0)
  header_line =
      by_test (ltb 0 (length f))
      (λ t.
      let end = 0 + line_length (drop 0 f) in
      let l = line_here f 0 end (line_after f 0) (ltb-true _ _ t) refl refl in
      let i = sym (header_at f end _ l k) ∙ past_header in
      let z : end ≡ 2 + k.header_size = omega (arith, frame_size 0 end k.header k.header_size f (omega arith) i) in
      subst (λ (n : ℕ). LineAt f 0 n (line_after f 0)) z l)
      (λ t. let h : length f ≤ 0 = ltb-false _ _ t in true_false past_header (header_none k f (omega arith)))

pub second_line : {k : Form} {f : List ℕ} {n next : ℕ} → HeaderAnswer k f n next → n ≡ 0 → LineAt f 0 (2 + k.header_size) next
second_line {k} {f} a z =
    subst (λ (i : ℕ). LineAt f 0 (2 + k.header_size) i) (sym (a.second_line ∙ answered_none (line_after f 0) z))
    (header_line k f (sym a.says ∙ z))
