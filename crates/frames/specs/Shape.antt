-- The shape of a file as it is read: the header's questions and the body's, and what is known of a file that they refuse nothing of
-- (document 01, "Questions put to a call").
--   form_of layout, bodies_of first second        the form that a layout stands for; its body kinds, one or two
--   first_kind, last_kind                         a form's body kinds
--   last_of lines, before_last lines              the last of some lines, and those before it
--   lines_fit kinds size end lines                question 6, of the lines after the header
--   header_questions form file, header_fault      questions 2, 3 and 4
--   body_questions form lines, body_fault         questions 6 and 7, of the lines after the header
--   end_fault kind count line                     what the last line decides of them
--   shape_questions form file z                   questions 2 to 7, z the answer to 5
--   sized_questions form file z e                 questions 2 to 8, z the answer to 5 and e to 8
--   certificate_questions form file e             the same of a certificate, which has no question 5
--   no_lines, no_shape                            what stands beside a refusal
--   HeaderAnswer, BodyAnswer, ShapeAnswer         what each reader answers: a number, and 0 beside a refusal
--   Shaped form file next count firsts            all that is known where no question up to 7 is answered no
use Rattle.std.specs.Prelude.{◌≡◌, Option, Some, None, Bool, true, ◌&&◌, List, [], ◌∷◌, ◌++◌, ℕ, ◌+◌, ◌-◌, ◌≤◌, ◌<◌, ltb, leb, eqb, length, get_or, take, drop}
use Rattle.formats.specs.Kinds.{kind_number}
use Rattle.formats.specs.declared.kinds.Kind.{Kind}
use Rattle.formats.specs.Limits.{file_most}
use Rattle.counting.specs.Tests.{all}
use Rattle.frames.specs.Frames.{lines_of, is_digit, is_whole_file, hex_at, Form, is_frame_of, first_line, rest_lines, last_line, body_lines, has_header, bodies_fit, shape_fault, pairs_in}
use Rattle.frames.specs.Questions.{Question, ask, first_no, answered}
use Rattle.frames.specs.Lines.{is_plain, line_after, LineAt}
use Rattle.frames.specs.declared.layout.Layout.{Layout}
use Rattle.frames.specs.declared.shape.Body.{Body}
use Rattle.frames.specs.declared.shape.Shape.{Shape}

-- FORMS
abbrev pub bodies_of : (first : Kind) → (second : Option Kind) → List ℕ
bodies_of a None = kind_number a ∷ []
bodies_of a (Some b) = kind_number a ∷ kind_number b ∷ []

abbrev pub form_of : Layout → Form
form_of l = record {
  header = kind_number l.header;
  header_size = l.header_size;
  bodies = bodies_of l.first l.second;
  body_size = 4;
  end = kind_number l.end;
}

abbrev pub first_kind : Form → ℕ
first_kind k = get_or k.bodies 0 0

abbrev pub last_kind : Form → ℕ
last_kind k = get_or k.bodies (length k.bodies - 1) 0

-- 2, 3 AND 4
abbrev pub header_questions : Form → (file : List ℕ) → List Question
header_questions k f = ask 2 (leb (length f) file_most) ∷ ask 3 (is_whole_file f) ∷ ask 4 (has_header k f) ∷ []

abbrev pub header_fault : Form → (file : List ℕ) → ℕ
header_fault k f = first_no (header_questions k f)

pub record HeaderAnswer (k : Form) (f : List ℕ) (number next : ℕ) : Type 0 where
  pub says : number ≡ header_fault k f
  pub second_line : next ≡ answered number (line_after f 0)

-- 6 AND 7
abbrev pub last_of : List (List ℕ) → List ℕ
last_of ls = get_or ls (length ls - 1) []

abbrev pub before_last : List (List ℕ) → List (List ℕ)
before_last ls = take (length ls - 1) ls

abbrev pub lines_fit : (kinds : List ℕ) → (size end : ℕ) → List (List ℕ) → Bool
lines_fit ks n e ls = ltb 0 (length ls) && is_frame_of e 4 (last_of ls) && bodies_fit ks n (before_last ls)

abbrev pub body_questions : Form → List (List ℕ) → List Question
body_questions k ls =
    ask 6 (lines_fit k.bodies k.body_size k.end ls) ∷ ask 7 (eqb (hex_at 2 4 (last_of ls)) (length (before_last ls))) ∷ []

abbrev pub body_fault : Form → List (List ℕ) → ℕ
body_fault k ls = first_no (body_questions k ls)

abbrev pub end_fault : (kind count : ℕ) → List ℕ → ℕ
end_fault e n l = first_no (ask 6 (is_frame_of e 4 l) ∷ ask 7 (eqb (hex_at 2 4 l) n) ∷ [])

abbrev pub no_lines : Body
no_lines = record { count = 0; firsts = 0 }

pub record BodyAnswer (k : Form) (g : List ℕ) (number count firsts : ℕ) : Type 0 where
  pub says : number ≡ body_fault k (lines_of g)
  pub counts : count ≡ answered number (length (before_last (lines_of g)))
  pub first_counts : firsts ≡ answered number (length (pairs_in (first_kind k) (before_last (lines_of g))))

-- 2 TO 7
pub record Shaped (k : Form) (f : List ℕ) (next count firsts : ℕ) : Type 0 where
  pub short : length f ≤ file_most
  pub header : LineAt f 0 (2 + k.header_size) next
  pub header_digits : all is_digit (first_line f) ≡ true
  pub rest : rest_lines f ≡ lines_of (drop next f)
  pub some : 0 < length (rest_lines f)
  pub counts : count ≡ length (body_lines f)
  pub first_counts : firsts ≡ length (pairs_in (first_kind k) (body_lines f))
  pub few : count < 65536
  pub first_few : firsts ≤ count
  pub first_run : all (is_frame_of (first_kind k) k.body_size) (take firsts (body_lines f)) ≡ true
  pub last_run : all (is_frame_of (last_kind k) k.body_size) (drop firsts (body_lines f)) ≡ true
  pub end_frame : is_frame_of k.end 4 (last_line f) ≡ true
  pub plain_body : all (is_plain (2 + k.body_size)) (body_lines f) ≡ true
  pub plain_end : is_plain 6 (last_line f) ≡ true

abbrev pub shape_questions : Form → (file : List ℕ) → (header_fits : Bool) → List Question
shape_questions k f z = header_questions k f ++ ask 5 z ∷ body_questions k (rest_lines f)

-- with question 8, before the body is stored
abbrev pub sized_questions : Form → (file : List ℕ) → (header_fits size_fits : Bool) → List Question
sized_questions k f z e = shape_questions k f z ++ ask 8 e ∷ []

-- of a certificate, which has no question 5
abbrev pub certificate_questions : Form → (file : List ℕ) → (size_fits : Bool) → List Question
certificate_questions k f e = header_questions k f ++ body_questions k (rest_lines f) ++ ask 8 e ∷ []

abbrev pub no_shape : Shape
no_shape = record { next = 0; count = 0 }

pub record ShapeAnswer (k : Form) (f : List ℕ) (number next count : ℕ) : Type 0 where
  pub says : number ≡ shape_fault k f true
  pub second_line : next ≡ answered number (line_after f 0)
  pub counts : count ≡ answered number (length (body_lines f))
