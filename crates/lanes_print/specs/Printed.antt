-- What each program prints for a file (document 01, "Questions put to a call": Programs): the answer's lines, or 7E and the refusal. A program lends
-- room enough, so that question 1 is answered yes.
--   RefusedOr number Right text           the text is the refusal's line or, where there is none, right
--   GraphAnswer, GraphText file text      the text is an answer to a graph, and is what is printed for it: which path is left free
--   StockAnswer, StockText file text      the same of a stock, a plan directly followed by the standing sheet: which largest plan is left free
--   BudgetAnswer, BudgetText most file text     the same of a budget of searches: which pairing is left free
--   verdict_printed graph cert             the check's line
--   Shows told before after size          what a call told, as it is printed: its answer as it stands in the buffer, or the line of its refusal
--   PrintsOne text before after size      the text stands at the front and nothing else differs; its size counts bytes of the buffer
--   Prints Right before after size        the same of some text that is right
use Rattle.std.specs.Prelude.{◌≡◌, true, false, List, ℕ, eqb}
use Rattle.io.specs.Counts.{IsPrefixLen}
use Rattle.counting.specs.Tests.{pick}
use Rattle.counting.specs.declared.Pair.{Pair}
use Rattle.skew.specs.Graph.{has_path, is_wanted, canonical}
use Rattle.matching.specs.Stock.{is_plan}
use Rattle.matching.specs.Budget.{is_budgeted}
use Rattle.files.specs.GraphFile.{graph_in, graph_fault}
use Rattle.files.specs.StockFile.{stock_in, stock_fault, plan_and_sheet}
use Rattle.files.specs.CertificateFile.{path_text, barrier_text}
use Rattle.frames.specs.Frames.{or_else}
use Rattle.lanes.specs.Entry.{Told, refusal_line, check_post, verdict_line, most_fault, budget_text_of}
use Rattle.files.specs.Answers.{over, WrittenFirst}

-- WHAT IS PRINTED
abbrev pub RefusedOr : (number : ℕ) → (Right : List ℕ → Type 0) → (text : List ℕ) → Type 0
RefusedOr n Right t = (eqb n 0 ≡ false → t ≡ refusal_line n) × (n ≡ 0 → Right t)

abbrev pub GraphAnswer : (file text : List ℕ) → Type 0
GraphAnswer f t =
    (has_path (graph_in f) ≡ false → t ≡ barrier_text (canonical (graph_in f))) ×
    (has_path (graph_in f) ≡ true → (is : List ℕ) × ((is_wanted (graph_in f) is ≡ true) × (t ≡ path_text is)))

abbrev pub GraphText : (file text : List ℕ) → Type 0
GraphText f t = RefusedOr (graph_fault f) (GraphAnswer f) t

abbrev pub StockAnswer : (file text : List ℕ) → Type 0
StockAnswer f t = (ps : List Pair) × ((is_plan (stock_in f) ps ≡ true) × (t ≡ plan_and_sheet (stock_in f) ps))

abbrev pub StockText : (file text : List ℕ) → Type 0
StockText f t = RefusedOr (stock_fault f) (StockAnswer f) t

abbrev pub BudgetAnswer : (most : ℕ) → (file text : List ℕ) → Type 0
BudgetAnswer b f t = (ps : List Pair) × ((is_budgeted (stock_in f) b ps ≡ true) × (t ≡ budget_text_of (stock_in f) b ps))

abbrev pub BudgetText : (most : ℕ) → (file text : List ℕ) → Type 0
BudgetText b f t = RefusedOr (or_else (most_fault b) (stock_fault f)) (BudgetAnswer b f) t

abbrev pub verdict_printed : (graph cert : List ℕ) → List ℕ
verdict_printed f c = verdict_line (check_post f c)

-- HOW IT STANDS IN THE BUFFER
pub record Shows (r : Told) (before after : List ℕ) (size : ℕ) : Type 0 where
  pub bytes : after ≡ pick (eqb r.number 0) before (over (refusal_line r.number) before)
  pub told : size ≡ pick (eqb r.number 0) r.size 5

pub record PrintsOne (text before after : List ℕ) (size : ℕ) : Type 0 where
  pub written : WrittenFirst text before after size
  pub counted : IsPrefixLen size after

pub record Prints (Right : List ℕ → Type 0) (before after : List ℕ) (size : ℕ) : Type 0 where
  pub text : List ℕ
  pub right : Right text
  pub printed : PrintsOne text before after size
