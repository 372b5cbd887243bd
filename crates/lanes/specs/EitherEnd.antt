-- What is promised of the calls where lines end either way (document 02, L1).
--   AnsweredAlike f g    every call owes the same for both files: result, buffer and tally
--   ReturnsAnswered      carriage returns put before line feeds change no answer and no refusal, but that a file they make too long gets 2
--   ReturnsChecked       nor do they change a verdict, put into either file of the check or into both; but a graph that is too long gets 2, and a
--                        certificate, where the graph is accepted, 42
--   WritesPlain          every answer, each half of a stock's by itself, refusal and verdict is whole lines, each ended by a line feed alone
use Rattle.std.specs.Prelude.{◌≡◌, ◌↔◌, Bool, true, List, ℕ, ◌≤◌, ◌<◌, length}
use Rattle.formats.specs.Limits.{file_most}
use Rattle.counting.specs.declared.Pair.{Pair}
use Rattle.frames.specs.EitherEnd.{with_returns, is_plain_text}
use Rattle.frames.specs.Frames.{or_else}
use Rattle.matching.specs.Stock.{Stock}
use Rattle.files.specs.GraphFile.{graph_fault}
use Rattle.files.specs.StockFile.{sheet_text, plan_text, plan_and_sheet, budget_text}
use Rattle.files.specs.CertificateFile.{path_text, barrier_text}
use Rattle.lanes.specs.Entry.{call_fault, answer_fault, GraphOwes, check_fault, check_post, stock_call_fault, StockOwes, most_fault, budget_fault, BudgetOwes, refusal_line, verdict_line, Told, SearchedTold, Verdict}
use Rattle.lanes.specs.Tallies.{Asked, call, tally_after}
use Rattle.lanes.specs.declared.Tally.{Tally}

-- THE CALLS
abbrev pub AnsweredAlike : (one other : List ℕ) → Type 0
AnsweredAlike f g =
    ((c : ℕ) (o v : List ℕ) (r : Told) → GraphOwes c f o r v ↔ GraphOwes c g o r v) ×
    ((c : ℕ) (o v : List ℕ) (r : Told) → StockOwes c f o r v ↔ StockOwes c g o r v) ×
    ((c b : ℕ) (o v : List ℕ) (r : SearchedTold) → BudgetOwes c b f o r v ↔ BudgetOwes c b g o r v) ×
    ((c : ℕ) (a : Asked) (n : ℕ) (t : Tally) → tally_after t (call c a f n) ≡ tally_after t (call c a g n))

abbrev pub ReturnsAnswered : Type 0
ReturnsAnswered =
    (chosen : ℕ → Bool) (f : List ℕ) →
    (length (with_returns chosen f) ≤ file_most → AnsweredAlike (with_returns chosen f) f) ×
    (file_most < length (with_returns chosen f) →
    (c n : ℕ) →
    (answer_fault c (with_returns chosen f) n ≡ call_fault c n 2) × (stock_call_fault c (with_returns chosen f) n ≡ call_fault c n 2) ×
    ((b : ℕ) → budget_fault c b (with_returns chosen f) n ≡ call_fault c n (or_else (most_fault b) 2)))

-- THE CHECK, with a choice for each of its files
abbrev pub ReturnsChecked : Type 0
ReturnsChecked =
    (chosen also : ℕ → Bool) (f c : List ℕ) →
    (length (with_returns chosen f) ≤ file_most → length (with_returns also c) ≤ file_most →
    check_post (with_returns chosen f) (with_returns also c) ≡ check_post f c) ×
    (file_most < length (with_returns chosen f) → check_fault (with_returns chosen f) c ≡ 2) ×
    (file_most < length (with_returns also c) → check_fault f (with_returns also c) ≡ or_else (graph_fault f) 42)

-- WHAT IS WRITTEN
abbrev pub WritesPlain : Type 0
WritesPlain =
    ((is : List ℕ) → is_plain_text (path_text is) ≡ true) × ((cs : List ℕ) → is_plain_text (barrier_text cs) ≡ true) ×
    ((s : Stock) (ps : List Pair) → is_plain_text (plan_and_sheet s ps) ≡ true) × ((ps : List Pair) → is_plain_text (plan_text ps) ≡ true) ×
    ((n : ℕ) (fs : List Pair) → is_plain_text (sheet_text n fs) ≡ true) ×
    ((k m : ℕ) (ps : List Pair) → is_plain_text (budget_text k m ps) ≡ true) × ((n : ℕ) → is_plain_text (refusal_line n) ≡ true) ×
    ((v : Verdict) → is_plain_text (verdict_line v) ≡ true)
