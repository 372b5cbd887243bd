-- Plan files handed in to be kept (document 02, L8): the pairs that they say, and their questions, against a stock's cameras and fits.
--   plan_pairs                   the pairs that a file's frames say
--   pairs_told                   PP, the number in its header
--   plan_shape                   questions 2 to 4, 6 and 7, the last of CCCC and of PP
--   pairing_questions n fs ps    questions 9 and 12 to 14 of pairs
--   plan_questions n fs          all of them, in order
--   plan_fault n fs              the number of the first answered no, 0 where there is none
--   plan_stored                  the pairs that a reader stores: the file's where 2 to 7 are answered yes
use Rattle.std.specs.Prelude.{◌&&◌, List, [], ◌∷◌, ◌++◌, ℕ, leb, eqb, length}
use Rattle.formats.specs.Kinds.{pair_kind}
use Rattle.formats.specs.Limits.{file_most}
use Rattle.counting.specs.Tests.{all}
use Rattle.counting.specs.Pairs.{pair_named}
use Rattle.counting.specs.declared.Pair.{Pair}
use Rattle.frames.specs.Frames.{is_whole_file, hex_at, plan_form, first_line, body_lines, has_header, has_body, count_agrees, pairs_in}
use Rattle.frames.specs.Questions.{Question, ask, first_no}
use Rattle.files.specs.Tables.{stored}
use Rattle.files.specs.StockFile.{lit_questions}

abbrev pub plan_pairs : (file : List ℕ) → List Pair
plan_pairs f = pairs_in pair_kind (body_lines f)

abbrev pub pairs_told : (file : List ℕ) → ℕ
pairs_told f = hex_at 2 2 (first_line f)

-- question 5 has nothing to ask of a plan, 8, 10 and 11 ask of other files
abbrev pub plan_shape : (file : List ℕ) → List Question
plan_shape f =
    ask 2 (leb (length f) file_most) ∷ ask 3 (is_whole_file f) ∷ ask 4 (has_header plan_form f) ∷ ask 6 (has_body plan_form f) ∷
    ask 7 (count_agrees f && eqb (pairs_told f) (length (body_lines f))) ∷ []

abbrev pub pairing_questions : (cameras : ℕ) → (fits pairs : List Pair) → List Question
pairing_questions n fs ps = ask 9 (all (pair_named n) ps) ∷ lit_questions fs ps

abbrev pub plan_questions : (cameras : ℕ) → (fits : List Pair) → (file : List ℕ) → List Question
plan_questions n fs f = plan_shape f ++ pairing_questions n fs (plan_pairs f)

abbrev pub plan_fault : (cameras : ℕ) → (fits : List Pair) → (file : List ℕ) → ℕ
plan_fault n fs f = first_no (plan_questions n fs f)

abbrev pub plan_stored : (file : List ℕ) → List Pair
plan_stored f = stored (plan_shape f) (plan_pairs f)
