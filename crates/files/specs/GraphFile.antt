-- Graph files (document 01, "Frames" and "Questions put to a call"; the definitions are document 03's, with question 16 of document 02, L5).
--   header_fits    question 5: mate pairs 1 to 128, the source a node
--   arc_pairs      the arcs that a file's frames say, as pairs of numbers
--   graph_in       the graph that they say
--   arc_named      both ends of an arc exist
--   graph_fault    questions 2 to 9, 16 and 10: the number of the first answered no, 0 where there is none
--   basic_graph_fault                 document 03's graph_fault, which does not ask 16
--   numbers_fit, arcs_fit             question 5 of two numbers, question 8 of a number of arcs
--   ends_named                       question 9 of an arc: both ends are below a bound
--   graph_sized, arcs_questions       questions 2 to 8, and 9, 16 and 10 of arcs between so many nodes
--   graph_questions                  the questions of graph_fault, as a list
--   basic_arcs_questions, basic_questions     the same without 16: the questions of basic_graph_fault
--   arcs_stored                      the arcs that a reader stores, as pairs: the graph's where 2 to 8 are answered yes
use Rattle.std.specs.Prelude.{Bool, ◌&&◌, List, [], ◌∷◌, ◌++◌, ℕ, ◌*◌, ◌%◌, ltb, leb, eqb, length}
use Rattle.formats.specs.Kinds.{arc_kind}
use Rattle.formats.specs.Limits.{arcs_most, mate_pairs_most}
use Rattle.counting.specs.Tests.{all}
use Rattle.counting.specs.declared.Pair.{Pair}
use Rattle.frames.specs.Frames.{is_in, or_else, unless, hex_at, first_line, body_lines, shape_fault, graph_form, pairs_in}
use Rattle.frames.specs.Questions.{Question, ask}
use Rattle.frames.specs.Shape.{sized_questions}
use Rattle.skew.specs.Graph.{arcs_of, Graph, nodes, mates_fit, has_two_ends}
use Rattle.skew.specs.declared.Arc.{Arc}
use Rattle.files.specs.Tables.{stored}

abbrev pub header_fits : (file : List ℕ) → Bool
header_fits f = is_in 1 mate_pairs_most (hex_at 2 2 (first_line f)) && ltb (hex_at 4 2 (first_line f)) (2 * hex_at 2 2 (first_line f))

abbrev pub arc_pairs : (file : List ℕ) → List Pair
arc_pairs f = pairs_in arc_kind (body_lines f)

abbrev pub graph_in : (file : List ℕ) → Graph
graph_in f =
    record { pairs = hex_at 2 2 (first_line f); source = hex_at 4 2 (first_line f); arcs = arcs_of (arc_pairs f) }

abbrev pub arc_named : Graph → Arc → Bool
arc_named g x = ltb x.tail (nodes g) && ltb x.head (nodes g)

abbrev pub graph_fault : (file : List ℕ) → ℕ
graph_fault f =
    or_else (shape_fault graph_form f (header_fits f))
    (or_else (unless (eqb (length (graph_in f).arcs % 2) 0 && leb (length (graph_in f).arcs) arcs_most) 8)
    (or_else (unless (all (arc_named (graph_in f)) (graph_in f).arcs) 9)
    (or_else (unless (all has_two_ends (graph_in f).arcs) 16) (unless (mates_fit (graph_in f).arcs) 10))))

abbrev pub basic_graph_fault : (file : List ℕ) → ℕ
basic_graph_fault f =
    or_else (shape_fault graph_form f (header_fits f))
    (or_else (unless (eqb (length (graph_in f).arcs % 2) 0 && leb (length (graph_in f).arcs) arcs_most) 8)
    (or_else (unless (all (arc_named (graph_in f)) (graph_in f).arcs) 9) (unless (mates_fit (graph_in f).arcs) 10)))

-- AS A LIST: 2 to 8, then the arcs are stored, then 9, 16 and 10
abbrev pub numbers_fit : (pairs source : ℕ) → Bool
numbers_fit p s = is_in 1 mate_pairs_most p && ltb s (2 * p)

abbrev pub arcs_fit : (arcs : ℕ) → Bool
arcs_fit n = eqb (n % 2) 0 && leb n arcs_most

abbrev pub ends_named : (bound : ℕ) → Arc → Bool
ends_named n x = ltb x.tail n && ltb x.head n

abbrev pub graph_sized : (file : List ℕ) → List Question
graph_sized f = sized_questions graph_form f (header_fits f) (arcs_fit (length (graph_in f).arcs))

abbrev pub arcs_questions : (nodes : ℕ) → List Arc → List Question
arcs_questions n xs = ask 9 (all (ends_named n) xs) ∷ ask 16 (all has_two_ends xs) ∷ ask 10 (mates_fit xs) ∷ []

abbrev pub graph_questions : (file : List ℕ) → List Question
graph_questions f = graph_sized f ++ arcs_questions (nodes (graph_in f)) (graph_in f).arcs

abbrev pub basic_arcs_questions : (nodes : ℕ) → List Arc → List Question
basic_arcs_questions n xs = ask 9 (all (ends_named n) xs) ∷ ask 10 (mates_fit xs) ∷ []

abbrev pub basic_questions : (file : List ℕ) → List Question
basic_questions f = graph_sized f ++ basic_arcs_questions (nodes (graph_in f)) (graph_in f).arcs

abbrev pub arcs_stored : (file : List ℕ) → List Pair
arcs_stored f = stored (graph_sized f) (arc_pairs f)
