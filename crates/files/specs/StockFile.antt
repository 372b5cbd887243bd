-- Stock files, and plans, standing sheets and budgets' answers as they are written (document 01, "Stocks", "Frames" and "Questions put to a call"; the definitions
-- are document 03's).
--   header_fits               question 5: at most 127 cameras
--   stock_in                  the stock that a file's frames say
--   stock_fault               questions 2 to 9 and 11 to 14: the number of the first answered no, 0 where there is none
--   stock_sized, pairs_questions     questions 2 to 8, and 9 and 11 to 14 of fits and lit pairs
--   stock_questions           the questions of stock_fault, as a list
--   lit_questions             questions 12 to 14 of pairs against fits, 13 by the look-up (document 02, L3): where fits rise, those of pairs_questions
--   fits_stored, lit_stored    the pairs that a reader stores: the stock's where 2 to 8 are answered yes
--   mark_lines, sheet_text     the standing sheet, from the cameras and the fits alone
--   sheet_with                the same frames, from a number of pairs and marks that were found
--   alike                    two stocks with as many cameras, the same greatest number and the same marks: the same sheet
--   plan_lines, plan_text      a plan
--   plan_and_sheet             a plan, directly followed by the standing sheet (document 02, L6)
--   budget_text               what a budget of searches comes to (document 02, L4): pairs, searches run, lanes missing; a plan's lines
use Rattle.std.specs.Prelude.{Bool, ◌&&◌, List, [], ◌∷◌, ◌++◌, ℕ, suc, leb, eqb, length}
use Rattle.formats.specs.Kinds.{budget_end, budget_kind, fit_kind, lit_kind, mark_kind, pair_kind, plan_end, plan_kind, sheet_end, sheet_kind}
use Rattle.formats.specs.Limits.{cameras_most, fits_most}
use Rattle.counting.specs.Tests.{all, same}
use Rattle.counting.specs.Pairs.{pair_named}
use Rattle.counting.specs.declared.Pair.{Pair}
use Rattle.frames.specs.Frames.{or_else, unless, hex_at, first_line, body_lines, shape_fault, stock_form, pairs_in, frame4, frame6, frame8, frame_of4}
use Rattle.frames.specs.Questions.{Question, ask}
use Rattle.frames.specs.Shape.{sized_questions}
use Rattle.matching.specs.Stock.{Stock, has_pair, none_shared, greatest, marks_of, pairs_rise}
use Rattle.matching.specs.LookUp.{is_found}
use Rattle.files.specs.Tables.{stored}

abbrev pub header_fits : (file : List ℕ) → Bool
header_fits f = leb (hex_at 2 2 (first_line f)) cameras_most

abbrev pub stock_in : (file : List ℕ) → Stock
stock_in f =
    record { cameras = hex_at 2 2 (first_line f); fits = pairs_in fit_kind (body_lines f); lit = pairs_in lit_kind (body_lines f) }

abbrev pub stock_fault : (file : List ℕ) → ℕ
stock_fault f =
    or_else (shape_fault stock_form f (header_fits f))
    (or_else (unless (leb (length (stock_in f).fits) fits_most) 8)
    (or_else
    (unless (all (pair_named (stock_in f).cameras) (stock_in f).fits && all (pair_named (stock_in f).cameras) (stock_in f).lit) 9)
    (or_else (unless (pairs_rise (stock_in f).fits) 11)
    (or_else (unless (pairs_rise (stock_in f).lit) 12)
    (or_else (unless (all (has_pair (stock_in f).fits) (stock_in f).lit) 13) (unless (none_shared (stock_in f).lit) 14))))))

-- AS A LIST: 2 to 8, then the pairs are stored, then 9 and 11 to 14
abbrev pub stock_sized : (file : List ℕ) → List Question
stock_sized f = sized_questions stock_form f (header_fits f) (leb (length (stock_in f).fits) fits_most)

abbrev pub pairs_questions : (cameras : ℕ) → (fits lit : List Pair) → List Question
pairs_questions n fs ls =
    ask 9 (all (pair_named n) fs && all (pair_named n) ls) ∷ ask 11 (pairs_rise fs) ∷ ask 12 (pairs_rise ls) ∷ ask 13 (all (has_pair fs) ls) ∷
    ask 14 (none_shared ls) ∷ []

abbrev pub stock_questions : (file : List ℕ) → List Question
stock_questions f = stock_sized f ++ pairs_questions (stock_in f).cameras (stock_in f).fits (stock_in f).lit

abbrev pub lit_questions : (fits lit : List Pair) → List Question
lit_questions fs ls = ask 12 (pairs_rise ls) ∷ ask 13 (all (is_found fs) ls) ∷ ask 14 (none_shared ls) ∷ []

abbrev pub fits_stored : (file : List ℕ) → List Pair
fits_stored f = stored (stock_sized f) (stock_in f).fits

abbrev pub lit_stored : (file : List ℕ) → List Pair
lit_stored f = stored (stock_sized f) (stock_in f).lit

-- THE STANDING SHEET
unfoldable pub mark_lines : (camera : ℕ) → (marks : List ℕ) → List ℕ
mark_lines u [] = []
mark_lines u (m ∷ ms) = frame6 mark_kind u m ++ mark_lines (suc u) ms

abbrev pub sheet_text : (cameras : ℕ) → List Pair → List ℕ
sheet_text n fs = frame4 sheet_kind (greatest fs) ++ mark_lines 0 (marks_of n fs) ++ frame_of4 sheet_end n

abbrev pub sheet_with : (pairs : ℕ) → (marks : List ℕ) → List ℕ
sheet_with k ms = frame4 sheet_kind k ++ mark_lines 0 ms ++ frame_of4 sheet_end (length ms)

-- two stocks with the same sheet
abbrev pub alike : (one other : Stock) → Bool
alike s t =
    eqb s.cameras t.cameras && eqb (greatest s.fits) (greatest t.fits) &&
    same (marks_of s.cameras s.fits) (marks_of t.cameras t.fits)

-- A PLAN
unfoldable pub plan_lines : (pairs : List Pair) → List ℕ
plan_lines [] = []
plan_lines (x ∷ xs) = frame6 pair_kind x.first x.second ++ plan_lines xs

abbrev pub plan_text : (pairs : List Pair) → List ℕ
plan_text ps = frame4 plan_kind (length ps) ++ plan_lines ps ++ frame_of4 plan_end (length ps)

-- BOTH
abbrev pub plan_and_sheet : Stock → (pairs : List Pair) → List ℕ
plan_and_sheet s ps = plan_text ps ++ sheet_text s.cameras s.fits

-- A BUDGET OF SEARCHES
abbrev pub budget_text : (searches missing : ℕ) → (pairs : List Pair) → List ℕ
budget_text k m ps = frame8 budget_kind (length ps) k m ++ plan_lines ps ++ frame_of4 budget_end (length ps)
