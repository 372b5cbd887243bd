-- Certificates: paths and barriers (document 01, "The barrier", "Frames" and "Questions put to a call"; the definitions are document 03's).
--   is_path_file                        the header is a path's
--   path_arcs, path_fault               a path's arc numbers, and its questions 2 to 9
--   names_in_order                      line i names node i, with class at most 82
--   barrier_classes, barrier_fault      a barrier's classes, and its questions 2 to 9
--   path_sized, path_questions          a path's questions 2 to 8, and all of them, as lists
--   barrier_sized, barrier_questions    a barrier's
--   path_stored, barrier_stored         what a reader stores: the body where 2 to 8 are answered yes
--   cert_fault, cert_holds              of either kind: the first question answered no, and past the questions whether it holds
--   path_lines, path_text               a path as it is written
--   class_lines, barrier_text           and a barrier
use Rattle.std.specs.Prelude.{Bool, true, ◌&&◌, List, [], ◌∷◌, ◌++◌, ℕ, suc, ltb, leb, eqb, length}
use Rattle.formats.specs.Kinds.{barrier_end, barrier_kind, class_kind, path_end, path_kind, step_kind}
use Rattle.formats.specs.Limits.{class_most, steps_most}
use Rattle.counting.specs.Tests.{pick, all}
use Rattle.counting.specs.Pairs.{seconds_of}
use Rattle.counting.specs.declared.Pair.{Pair}
use Rattle.frames.specs.Frames.{or_else, unless, hex_at, first_line, body_lines, shape_fault, path_form, barrier_form, pairs_in, numbers_in, frame2, frame6, frame_of4}
use Rattle.frames.specs.Questions.{Question, ask}
use Rattle.frames.specs.Shape.{certificate_questions}
use Rattle.skew.specs.Graph.{Graph, nodes, is_wanted, is_barrier}
use Rattle.files.specs.Tables.{stored}

abbrev pub is_path_file : (file : List ℕ) → Bool
is_path_file f = eqb (hex_at 0 2 (first_line f)) path_kind

-- A PATH
abbrev pub path_arcs : (file : List ℕ) → List ℕ
path_arcs f = numbers_in (body_lines f)

abbrev pub path_fault : Graph → (file : List ℕ) → ℕ
path_fault g f =
    or_else (shape_fault path_form f true)
    (or_else (unless (leb (length (body_lines f)) steps_most) 8) (unless (all (λ (i : ℕ). ltb i (length g.arcs)) (path_arcs f)) 9))

-- A BARRIER: line i names node i
unfoldable pub names_in_order : (node : ℕ) → List Pair → Bool
names_in_order i [] = true
names_in_order i (x ∷ xs) = eqb x.first i && leb x.second class_most && names_in_order (suc i) xs

abbrev pub barrier_classes : (file : List ℕ) → List ℕ
barrier_classes f = seconds_of (pairs_in class_kind (body_lines f))

abbrev pub barrier_fault : Graph → (file : List ℕ) → ℕ
barrier_fault g f =
    or_else (shape_fault barrier_form f true)
    (or_else (unless (eqb (length (body_lines f)) (nodes g)) 8) (unless (names_in_order 0 (pairs_in class_kind (body_lines f))) 9))

-- AS LISTS: 2 to 8, then the body is stored, then 9; a path over so many arcs, a barrier over so many nodes
abbrev pub path_sized : (file : List ℕ) → List Question
path_sized f = certificate_questions path_form f (leb (length (body_lines f)) steps_most)

abbrev pub path_questions : (arcs : ℕ) → (file : List ℕ) → List Question
path_questions n f = path_sized f ++ ask 9 (all (λ (i : ℕ). ltb i n) (path_arcs f)) ∷ []

abbrev pub barrier_sized : (nodes : ℕ) → (file : List ℕ) → List Question
barrier_sized n f = certificate_questions barrier_form f (eqb (length (body_lines f)) n)

abbrev pub barrier_questions : (nodes : ℕ) → (file : List ℕ) → List Question
barrier_questions n f = barrier_sized n f ++ ask 9 (names_in_order 0 (pairs_in class_kind (body_lines f))) ∷ []

-- what a reader stores
abbrev pub path_stored : (file : List ℕ) → List ℕ
path_stored f = stored (path_sized f) (path_arcs f)

abbrev pub barrier_stored : (nodes : ℕ) → (file : List ℕ) → List Pair
barrier_stored n f = stored (barrier_sized n f) (pairs_in class_kind (body_lines f))

-- EITHER
abbrev pub cert_fault : Graph → (file : List ℕ) → ℕ
cert_fault g f = pick (is_path_file f) (path_fault g f) (barrier_fault g f)

abbrev pub cert_holds : Graph → (file : List ℕ) → Bool
cert_holds g f = pick (is_path_file f) (is_wanted g (path_arcs f)) (is_barrier g (barrier_classes f))

-- WRITTEN
unfoldable pub path_lines : (arcs : List ℕ) → List ℕ
path_lines [] = []
path_lines (i ∷ is) = frame_of4 step_kind i ++ path_lines is

abbrev pub path_text : (arcs : List ℕ) → List ℕ
path_text is = frame2 path_kind ++ path_lines is ++ frame_of4 path_end (length is)

unfoldable pub class_lines : (node : ℕ) → (classes : List ℕ) → List ℕ
class_lines v [] = []
class_lines v (c ∷ cs) = frame6 class_kind v c ++ class_lines (suc v) cs

abbrev pub barrier_text : (classes : List ℕ) → List ℕ
barrier_text cs = frame2 barrier_kind ++ class_lines 0 cs ++ frame_of4 barrier_end (length cs)
