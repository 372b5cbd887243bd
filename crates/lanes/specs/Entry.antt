-- What each call answers and leaves: its result and the buffer, and what it comes to (document 01, "Questions put to a call"; the definitions are
-- document 03's, with the verdict's lines, and document 02's: the budgeted call of L4, L6's one for a plan and a sheet, and L7's callers). What it
-- comes to is counted in Tallies.
--   caller_fault, room_fault, call_fault                  question 17; question 1, by the buffer's length; 17, then 1, then what else is asked
--   answer_fault, stock_call_fault, check_fault           the first question answered no, by call
--   Told, told                                            a call's result: its refusal, or 0 and the answer's size
--   told_of                                               what code returns, as such a result
--   Answers                                               a text is told, and stands at the buffer's front
--   GraphOwes, graph_outcome                              a graph's answer, some path or the canonical barrier; what it comes to
--   Verdict, check_post, verdict_line                     what a check may answer; what it does answer, and the line that says it
--   check_number, verdict_of                              a refusal's number, a certificate's with 40 added; what code returns, as such an answer
--   sheet_of_file                                         a stock's standing sheet
--   StockOwes, stock_outcome                              a stock's answer, some plan and that sheet: which largest plan is left free; what it comes to
--   most_fault, budget_fault                              question 15; 17, 1, then 15, then the stock's
--   SearchedTold, searched                                a call's result with the searches that were run, 0 in a refusal
--   no_searches, searched_of                              no searches that wrote nothing; what code returns, as such a result
--   budget_text_of, BudgetOwes                            what a budget of searches comes to, as it is written; which pairing is left free
--   budget_outcome                                        what that call comes to
--   refusal_line                                          the line that says a refusal
use Rattle.std.specs.Prelude.{◌≡◌, Bool, true, false, Result, Ok, Err, List, ℕ, ◌+◌, ltb, leb, eqb, length}
use Rattle.formats.specs.Kinds.{refusal_kind, verdict_kind}
use Rattle.formats.specs.Limits.{callers, room, searches_most}
use Rattle.formats.specs.Refusals.{refusal_number, refusal_in, value_or}
use Rattle.formats.specs.declared.refusals.Refusal.{Refusal}
use Rattle.counting.specs.Tests.{pick}
use Rattle.counting.specs.declared.Pair.{Pair}
use Rattle.frames.specs.Frames.{or_else, unless, frame4}
use Rattle.skew.specs.Graph.{has_path, is_wanted, canonical}
use Rattle.matching.specs.Stock.{Stock, is_plan}
use Rattle.matching.specs.Budget.{searches_run, missing, is_budgeted}
use Rattle.files.specs.GraphFile.{graph_in, graph_fault}
use Rattle.files.specs.StockFile.{stock_in, stock_fault, sheet_text, plan_and_sheet, budget_text}
use Rattle.files.specs.Answers.{over}
use Rattle.files.specs.CertificateFile.{cert_fault, cert_holds, path_text, barrier_text}
use Rattle.lanes.specs.declared.Outcome.{Outcome}
use Rattle.lanes.specs.declared.Outcome.TheVariants as outcome
use Rattle.lanes.specs.declared.Searched.{Searched}
use Rattle.lanes.specs.declared.CheckRefusal.{CheckRefusal}
use Rattle.lanes.specs.declared.CheckRefusal.TheVariants.{Graph, Certificate}

-- THE QUESTIONS: 17, then 1, then the file's
abbrev pub caller_fault : (caller : ℕ) → ℕ
caller_fault c = unless (ltb c callers) 17

abbrev pub room_fault : (size : ℕ) → ℕ
room_fault n = unless (leb room n) 1

abbrev pub call_fault : (caller size fault : ℕ) → ℕ
call_fault c n m = or_else (caller_fault c) (or_else (room_fault n) m)

pub record Told : Type 0 where
  pub number : ℕ
  pub size : ℕ

abbrev pub told : (number size : ℕ) → Told
told n k = record { number = n; size = pick (eqb n 0) k 0 }

abbrev pub told_of : Result ℕ Refusal → Told
told_of r = record { number = refusal_in r; size = value_or 0 r }

abbrev pub refusal_line : (number : ℕ) → List ℕ
refusal_line n = frame4 refusal_kind n

-- A GRAPH: some regular path, or the canonical barrier; which path is left free
abbrev pub answer_fault : (caller : ℕ) → (file : List ℕ) → (size : ℕ) → ℕ
answer_fault c f n = call_fault c n (graph_fault f)

abbrev pub Answers : (text buffer : List ℕ) → (answer : Told) → (after : List ℕ) → Type 0
Answers t o r v = (r ≡ told 0 (length t)) × (v ≡ over t o)

abbrev pub GraphOwes : (caller : ℕ) → (file buffer : List ℕ) → (answer : Told) → (after : List ℕ) → Type 0
GraphOwes c f o r v =
    (eqb (answer_fault c f (length o)) 0 ≡ false → (r ≡ told (answer_fault c f (length o)) 0) × (v ≡ o)) ×
    (answer_fault c f (length o) ≡ 0 →
    (has_path (graph_in f) ≡ false → Answers (barrier_text (canonical (graph_in f))) o r v) ×
    (has_path (graph_in f) ≡ true → (is : List ℕ) × ((is_wanted (graph_in f) is ≡ true) × Answers (path_text is) o r v)))

abbrev pub graph_outcome : (caller : ℕ) → (file : List ℕ) → (size : ℕ) → Outcome
graph_outcome c f n = pick (eqb (answer_fault c f n) 0) (pick (has_path (graph_in f)) outcome.Path outcome.Barrier) outcome.Refusal

-- THE CHECK: the graph's questions, then the certificate's with 40 added
abbrev pub check_fault : (graph cert : List ℕ) → ℕ
check_fault f c =
    or_else (graph_fault f) (pick (eqb (cert_fault (graph_in f) c) 0) 0 (40 + cert_fault (graph_in f) c))

pub data Verdict : Type 0 where
  Refused : (number : ℕ) → Verdict
  Yes No : Verdict

abbrev pub check_number : CheckRefusal → ℕ
check_number (Graph e) = refusal_number e
check_number (Certificate e) = 40 + refusal_number e

abbrev pub verdict_of : Result Bool CheckRefusal → Verdict
verdict_of (Ok holds) = pick holds Yes No
verdict_of (Err e) = Refused (check_number e)

abbrev pub check_post : (graph cert : List ℕ) → Verdict
check_post f c = pick (eqb (check_fault f c) 0) (pick (cert_holds (graph_in f) c) Yes No) (Refused (check_fault f c))

-- 7A01, 7A00, or 7E and the number
abbrev pub verdict_line : Verdict → List ℕ
verdict_line (Refused n) = refusal_line n
verdict_line Yes = frame4 verdict_kind 1
verdict_line No = frame4 verdict_kind 0

-- A STOCK: some plan, directly followed by the standing sheet; which largest plan is left free
abbrev pub stock_call_fault : (caller : ℕ) → (file : List ℕ) → (size : ℕ) → ℕ
stock_call_fault c f n = call_fault c n (stock_fault f)

abbrev pub sheet_of_file : (file : List ℕ) → List ℕ
sheet_of_file f = sheet_text (stock_in f).cameras (stock_in f).fits

abbrev pub StockOwes : (caller : ℕ) → (file buffer : List ℕ) → (answer : Told) → (after : List ℕ) → Type 0
StockOwes c f o r v =
    (eqb (stock_call_fault c f (length o)) 0 ≡ false → (r ≡ told (stock_call_fault c f (length o)) 0) × (v ≡ o)) ×
    (stock_call_fault c f (length o) ≡ 0 → (ps : List Pair) × ((is_plan (stock_in f) ps ≡ true) × Answers (plan_and_sheet (stock_in f) ps) o r v))

abbrev pub stock_outcome : (caller : ℕ) → (file : List ℕ) → (size : ℕ) → Outcome
stock_outcome c f n = pick (eqb (stock_call_fault c f n) 0) outcome.Stock outcome.Refusal

-- A BUDGET OF SEARCHES: which pairing is left free
abbrev pub most_fault : (most : ℕ) → ℕ
most_fault b = unless (leb b searches_most) 15

abbrev pub budget_fault : (caller most : ℕ) → (file : List ℕ) → (size : ℕ) → ℕ
budget_fault c b f n = call_fault c n (or_else (most_fault b) (stock_fault f))

pub record SearchedTold : Type 0 where
  pub told : Told
  pub searches : ℕ

abbrev pub searched : (number size searches : ℕ) → SearchedTold
searched n k j = record { told = told n k; searches = pick (eqb n 0) j 0 }

abbrev pub no_searches : Searched
no_searches = record { size = 0; searches = 0 }

abbrev pub searched_of : Result Searched Refusal → SearchedTold
searched_of r = record { told = record { number = refusal_in r; size = (value_or no_searches r).size }; searches = (value_or no_searches r).searches }

abbrev pub budget_text_of : Stock → (most : ℕ) → (pairs : List Pair) → List ℕ
budget_text_of s b ps = budget_text (searches_run s b) (missing s b (length ps)) ps

abbrev pub BudgetOwes : (caller most : ℕ) → (file buffer : List ℕ) → (answer : SearchedTold) → (after : List ℕ) → Type 0
BudgetOwes c b f o r v =
    (eqb (budget_fault c b f (length o)) 0 ≡ false → (r ≡ searched (budget_fault c b f (length o)) 0 0) × (v ≡ o)) ×
    (budget_fault c b f (length o) ≡ 0 →
    (ps : List Pair) ×
    ((is_budgeted (stock_in f) b ps ≡ true) × (r ≡ searched 0 (length (budget_text_of (stock_in f) b ps)) (searches_run (stock_in f) b)) ×
    (v ≡ over (budget_text_of (stock_in f) b ps) o)))

abbrev pub budget_outcome : (caller most : ℕ) → (file : List ℕ) → (size : ℕ) → Outcome
budget_outcome c b f n = pick (eqb (budget_fault c b f n) 0) outcome.Stock outcome.Refusal
