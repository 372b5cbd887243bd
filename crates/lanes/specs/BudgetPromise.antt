-- What is promised of the budgeted call (document 02, L4) for every accepted file and every budget, read off the bytes that it left. What is promised of
-- stocks, without bytes, is matching/specs/Budget's.
--   pairs_said, searches_said, missing_said     PP, SS and MM of a header 61PPSSMM
--   BudgetNumbers      PP, SS and MM are the numbers defined; SS is also the result's, and the size follows from PP
--   BudgetBounds       the greatest number of pairs is at most PP plus MM
--   BudgetPlans        with as many searches as question 15 allows it is a plan, and MM is 0
--   SameRefusals       a budget that passes 15 is refused where the stock call is, with the same number
--   SomeBudget         the call can answer: something is owed of every caller, file, budget and buffer
use Rattle.std.specs.Prelude.{◌≡◌, true, List, ℕ, suc, ◌+◌, ◌*◌, ◌≤◌, length}
use Rattle.formats.specs.Limits.{searches_most}
use Rattle.counting.specs.declared.Pair.{Pair}
use Rattle.frames.specs.Frames.{hex_at}
use Rattle.matching.specs.Stock.{greatest, is_plan}
use Rattle.matching.specs.Budget.{gain, gained, searches_run, missing}
use Rattle.files.specs.StockFile.{stock_in, budget_text}
use Rattle.files.specs.Answers.{over}
use Rattle.lanes.specs.Entry.{stock_call_fault, budget_fault, searched, BudgetOwes, SearchedTold}

abbrev pub pairs_said : (answer : List ℕ) → ℕ
pairs_said v = hex_at 2 2 v

abbrev pub searches_said : (answer : List ℕ) → ℕ
searches_said v = hex_at 4 2 v

abbrev pub missing_said : (answer : List ℕ) → ℕ
missing_said v = hex_at 6 2 v

abbrev pub BudgetNumbers : Type 0
BudgetNumbers =
    (c b : ℕ) (f o v : List ℕ) (r : SearchedTold) → budget_fault c b f (length o) ≡ 0 → BudgetOwes c b f o r v →
    (pairs_said v ≡ length (stock_in f).lit + gained (stock_in f) b) × (searches_said v ≡ searches_run (stock_in f) b) ×
    (missing_said v ≡ missing (stock_in f) b (pairs_said v)) × (r.searches ≡ searches_said v) × (r.told.size ≡ 16 + 7 * pairs_said v)

abbrev pub BudgetBounds : Type 0
BudgetBounds =
    (c b : ℕ) (f o v : List ℕ) (r : SearchedTold) → budget_fault c b f (length o) ≡ 0 → BudgetOwes c b f o r v →
    greatest (stock_in f).fits ≤ pairs_said v + missing_said v

abbrev pub BudgetPlans : Type 0
BudgetPlans =
    (c : ℕ) (f o v : List ℕ) (r : SearchedTold) → budget_fault c searches_most f (length o) ≡ 0 → BudgetOwes c searches_most f o r v →
    (ps : List Pair) ×
    ((is_plan (stock_in f) ps ≡ true) × (r ≡ searched 0 (length (budget_text (suc (gain (stock_in f))) 0 ps)) (suc (gain (stock_in f)))) ×
    (v ≡ over (budget_text (suc (gain (stock_in f))) 0 ps) o))

abbrev pub SameRefusals : Type 0
SameRefusals = (c b : ℕ) (f : List ℕ) (n : ℕ) → b ≤ searches_most → budget_fault c b f n ≡ stock_call_fault c f n

abbrev pub SomeBudget : Type 0
SomeBudget = (c b : ℕ) (f o : List ℕ) → (r : SearchedTold) × ((v : List ℕ) × BudgetOwes c b f o r v)
