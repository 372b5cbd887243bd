-- Questions 2 to 7 together, and what is known of a file that passes them.
--   shape_asked                               document 03's chain is the first no of the list
--   shape_header, shape_five, shape_body      its number, by where the questions end
--   sized_shape, sized_eight                  the same with question 8
--   shaped, read_shaped                       what is known where no question is answered no, and so from what the readers answer
--   shape_refused, answer_shape, answer_shaped    the answers of a file that has no question 5, and what is known of it
use mathlib.Core.Path.{◌≡◌, refl, ap, sym, ◌∙◌}
use mathlib.Core.Logic.{◌≢◌}
use mathlib.Core.Bool.{Bool, true, false, ◌&&◌}
use mathlib.Core.List.{List, [], ◌∷◌}
use Prim.Native.Nat.{ℕ, suc, ◌+◌, ◌-◌, ◌%◌, ◌≤◌, ◌<◌}
use native.Mathlib.Omega.{arith}
use lib.Dec.{ltb, eqb}
use lib.ListN.{length, take, drop, length-drop, take-append-drop}
use borrow.Author.Tests.{eq-eqb, eqb-true, ltb-true}
use Rattle.formats.specs.Kinds.{kind_number}
use Rattle.counting.specs.Tests.{pick, all}
use Rattle.counting.proofs.Booleans.{and_right, and_both, and_three}
use Rattle.counting.proofs.Membership.{all_each, each_all, all_get_d, all_take, all_drop, all_append}
use Rattle.frames.specs.Frames.{unless, lines_of, ends_whole, is_digit, is_frame, is_whole_file, hex_at, kind_of, Form, is_frame_of, rest_lines, last_line, body_lines, bodies_fit, shape_fault, pair_in, pairs_in}
use Rattle.frames.specs.Questions.{ask, first_no}
use Rattle.frames.specs.Lines.{is_plain, line_after, LineAt}
use Rattle.frames.specs.Shape.{form_of, bodies_of, first_kind, header_questions, header_fault, body_questions, body_fault, shape_questions, sized_questions, HeaderAnswer, BodyAnswer, Shaped, ShapeAnswer}
use Rattle.frames.specs.declared.layout.Layout.{Layout}
use Rattle.frames.proofs.HexNumbers.{hex_small}
use Rattle.frames.proofs.Questions.{chain_first, first_stop, first_go, first_none, accepted, answered_none, answered_refused}
use Rattle.frames.proofs.BodyFrames.{frame_length, first_kind_lem, last_kind_lem, fit_bodies, fit_runs, second}
use Rattle.frames.proofs.HeaderFrames.{rest_lines_lem, past_short, past_whole, header_line, second_line}

-- THE QUESTIONS as a list
pub shape_asked : (k : Form) (f : List ℕ) (z : Bool) → shape_fault k f z ≡ first_no (shape_questions k f z)
shape_asked k f z = chain_first (shape_questions k f z) refl

module _ {k : Form} {f : List ℕ} {n next : ℕ} (a : HeaderAnswer k f n next) (z : Bool) where
  pub shape_header : n ≢ 0 → n ≡ shape_fault k f z
  shape_header h = a.says ∙ sym (shape_asked k f z ∙ first_stop (header_questions k f) (ask 5 z ∷ body_questions k (rest_lines f)) (λ q. h (a.says ∙ q)))

  module _ (e : n ≡ 0) where
    past_header : shape_fault k f z ≡ pick z (body_fault k (rest_lines f)) 5
    past_header = shape_asked k f z ∙ first_go (header_questions k f) (ask 5 z ∷ body_questions k (rest_lines f)) refl (sym a.says ∙ e)

    pub shape_five : z ≡ false → 5 ≡ shape_fault k f z
    shape_five y = sym (past_header ∙ rw y)

    pub shape_body : {m count firsts : ℕ} → z ≡ true → BodyAnswer k (drop next f) m count firsts → m ≡ shape_fault k f z
    shape_body y b = b.says ∙ ap (body_fault k) (sym (rest_lines_lem f (2 + k.header_size) next (second_line a e))) ∙ sym (past_header ∙ rw y)

-- WITH QUESTION 8
module _ (k : Form) (f : List ℕ) (z e : Bool) where
  pub sized_shape : {n : ℕ} → n ≡ shape_fault k f z → n ≢ 0 → n ≡ first_no (sized_questions k f z e)
  sized_shape q h =
      let r = q ∙ shape_asked k f z in r ∙ sym (first_stop (shape_questions k f z) (ask 8 e ∷ []) (λ y. h (r ∙ y)))

  pub sized_eight : shape_fault k f z ≡ 0 → first_no (sized_questions k f z e) ≡ unless e 8
  sized_eight q = first_go (shape_questions k f z) (ask 8 e ∷ []) refl (sym (shape_asked k f z) ∙ q)

-- LINES OF DIGITS
abbrev is_digits : List ℕ → Bool
is_digits l = all is_digit l

whole_digits : (f : List ℕ) → is_whole_file f ≡ true → all is_digits (lines_of f) ≡ true
whole_digits f w =
    each_all is_digits (lines_of f)
    (λ l m.
    and_right (ltb 0 (length l) && eqb (length l % 2) 0) (is_digits l)
    (all_each is_frame (lines_of f) (and_right (ends_whole f) (all is_frame (lines_of f)) w) l m))

plain_frame : (k n : ℕ) (l : List ℕ) → is_frame_of k n l ≡ true → is_digits l ≡ true → is_plain (2 + n) l ≡ true
plain_frame k n l h d = and_both (eqb (length l) (2 + n)) (is_digits l) (eq-eqb _ _ (frame_length k n l h)) d

plain_frames : (k n : ℕ) (ls : List (List ℕ)) → all (is_frame_of k n) ls ≡ true → all is_digits ls ≡ true → all (is_plain (2 + n)) ls ≡ true
plain_frames k n ls h d =
    each_all (is_plain (2 + n)) ls (λ l m. plain_frame k n l (all_each (is_frame_of k n) ls h l m) (all_each is_digits ls d l m))

plain_runs : (a b n m : ℕ) (ls : List (List ℕ)) → all (is_frame_of a n) (take m ls) ≡ true → all (is_frame_of b n) (drop m ls) ≡ true →
    all is_digits ls ≡ true → all (is_plain (2 + n)) ls ≡ true
plain_runs a b n m ls p q d =
    rw take-append-drop at
    (all_append (is_plain (2 + n)) (take m ls) (drop m ls) (plain_frames a n (take m ls) p (all_take is_digits m ls d))
    (plain_frames b n (drop m ls) q (all_drop is_digits m ls d)))

pairs_few : (k : ℕ) (ls : List (List ℕ)) → length (pairs_in k ls) ≤ length ls
unfolding pairs_in
pairs_few k [] = omega arith
pairs_few k (l ∷ ls) = go (eqb (kind_of l) k) (pairs_few k ls)
  where
    go : (b : Bool) → length (pairs_in k ls) ≤ length ls → length (pick b (pair_in l ∷ pairs_in k ls) (pairs_in k ls)) ≤ suc (length ls)
    go true h = omega arith
    go false h = omega arith

-- PAST ALL OF THEM
module _ (y : Layout) (f : List ℕ) {next count firsts : ℕ} (h : header_fault (form_of y) f ≡ 0) (body_none : body_fault (form_of y) (rest_lines f) ≡ 0)
    (second_is : next ≡ line_after f 0) (count_is : count ≡ length (body_lines f))
    (first_counts : firsts ≡ length (pairs_in (first_kind (form_of y)) (body_lines f))) where
  abbrev first_number : ℕ
  first_number = kind_number y.first

  abbrev last_number : ℕ
  last_number = kind_number (second y)

  line_is : LineAt f 0 (2 + y.header_size) next
  line_is = rw second_is (header_line (form_of y) f h)

  six : (ltb 0 (length (rest_lines f)) ≡ true) × (is_frame_of (kind_number y.end) 4 (last_line f) ≡ true) ×
      (bodies_fit (bodies_of y.first y.second) 4 (body_lines f) ≡ true)
  six =
      and_three (ltb 0 (length (rest_lines f))) (is_frame_of (kind_number y.end) 4 (last_line f)) (bodies_fit (bodies_of y.first y.second) 4 (body_lines f))
      (accepted 6 (body_questions (form_of y) (rest_lines f)) refl body_none)

  firsts_are : firsts ≡ length (pairs_in first_number (body_lines f))
  firsts_are = rw (first_kind_lem y.first y.second) at first_counts

  runs : (all (is_frame_of first_number 4) (take firsts (body_lines f)) ≡ true) × (all (is_frame_of last_number 4) (drop firsts (body_lines f)) ≡ true)
  runs = rw firsts_are (fit_runs first_number last_number 4 (body_lines f) (sym (fit_bodies y.first y.second 4 (body_lines f)) ∙ six.2))

  digits : all is_digits (lines_of f) ≡ true
  digits = whole_digits f (past_whole (form_of y) f h)

  some : 0 < length (rest_lines f)
  some = ltb-true _ _ six.0

  end_digits : is_digits (last_line f) ≡ true
  end_digits = all_get_d is_digits (rest_lines f) [] (length (rest_lines f) - 1) (all_drop is_digits 1 (lines_of f) digits) (omega (arith, some))

  agrees : hex_at 2 4 (last_line f) ≡ length (body_lines f)
  agrees = eqb-true _ _ (accepted 7 (body_questions (form_of y) (rest_lines f)) refl body_none)

  pub shaped : Shaped (form_of y) f next count firsts
  shaped =
      let d = length-drop 1 (lines_of f) in
      let w = hex_small 2 4 (last_line f) end_digits in
      let p = pairs_few first_number (body_lines f) in
      record {
        short = past_short (form_of y) f h;
        header = line_is;
        header_digits = all_get_d is_digits (lines_of f) [] 0 digits (omega (arith, some));
        rest = rest_lines_lem f (2 + y.header_size) next line_is;
        some = some;
        counts = count_is;
        first_counts = first_counts;
        few = omega (arith, count_is, agrees);
        first_few = omega (arith, count_is, firsts_are);
        first_run = rw (first_kind_lem y.first y.second) runs.0;
        last_run = rw (last_kind_lem y.first y.second) runs.1;
        end_frame = six.1;
        plain_body =
            plain_runs first_number last_number 4 firsts (body_lines f) runs.0 runs.1
            (all_take is_digits (length (rest_lines f) - 1) (rest_lines f) (all_drop is_digits 1 (lines_of f) digits));
        plain_end = plain_frame (kind_number y.end) 4 (last_line f) six.1 end_digits;
      }

pub read_shaped : (y : Layout) {f : List ℕ} {n next m count firsts : ℕ} → HeaderAnswer (form_of y) f n next → n ≡ 0 →
    BodyAnswer (form_of y) (drop next f) m count firsts → m ≡ 0 → Shaped (form_of y) f next count firsts
read_shaped y {f} {next = next} h e r z =
    let l : lines_of (drop next f) ≡ rest_lines f = sym (rest_lines_lem f (2 + y.header_size) next (second_line h e)) in
    shaped y f (sym h.says ∙ e) (ap (body_fault (form_of y)) (sym l) ∙ sym r.says ∙ z) (h.second_line ∙ answered_none (line_after f 0) e)
    (rw l at (r.counts ∙ answered_none _ z)) (rw l at (r.first_counts ∙ answered_none _ z))

-- A FILE THAT HAS NO QUESTION 5
pub shape_refused : {k : Form} {f : List ℕ} {n : ℕ} → n ≡ shape_fault k f true → n ≢ 0 → ShapeAnswer k f n 0 0
shape_refused {f = f} e h =
    record { says = e; second_line = sym (answered_refused (line_after f 0) h); counts = sym (answered_refused (length (body_lines f)) h) }

pub answer_shape : {k : Form} {f : List ℕ} {n next m count firsts : ℕ} → HeaderAnswer k f n next → n ≡ 0 → BodyAnswer k (drop next f) m count firsts →
    m ≡ 0 → ShapeAnswer k f 0 next count
answer_shape {k} {f} {next = next} h e r z =
    let l : lines_of (drop next f) ≡ rest_lines f = sym (rest_lines_lem f (2 + k.header_size) next (second_line h e)) in
    record {
      says = sym z ∙ shape_body h true e refl r;
      second_line = h.second_line ∙ answered_none (line_after f 0) e;
      counts = rw l at (r.counts ∙ answered_none _ z);
    }

pub answer_shaped : (y : Layout) {f : List ℕ} {n next count : ℕ} → ShapeAnswer (form_of y) f n next count → n ≡ 0 →
    Shaped (form_of y) f next count (length (pairs_in (kind_number y.first) (body_lines f)))
answer_shaped y {f} s e =
    let k = form_of y in
    let r = first_none (header_questions k f) (body_questions k (rest_lines f)) refl (sym (shape_asked k f true) ∙ sym s.says ∙ e) in
    shaped y f r.0 r.1 (s.second_line ∙ answered_none (line_after f 0) e) (s.counts ∙ answered_none (length (body_lines f)) e)
    (rw (first_kind_lem y.first y.second))
