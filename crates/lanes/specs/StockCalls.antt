-- What the stock call answers by value, and what is written for an accepted stock (document 01, "Stocks" and "Questions put to a call"; document 02, L6).
--   StockWritten     some plan of a stock and its standing sheet stand at the front of a buffer and are told
--   StockAnswered    what the call owes, in one record: result and buffer, what it came to, and that its size is small
use Rattle.std.specs.Prelude.{◌≡◌, true, Result, Ok, List, ℕ, ◌≤◌, length}
use Rattle.formats.specs.Limits.{room}
use Rattle.formats.specs.Refusals.{value_or}
use Rattle.formats.specs.declared.refusals.Refusal.{Refusal}
use Rattle.counting.specs.declared.Pair.{Pair}
use Rattle.matching.specs.Stock.{Stock, is_plan}
use Rattle.files.specs.StockFile.{plan_and_sheet}
use Rattle.lanes.specs.Entry.{Answers, StockOwes, stock_outcome}
use Rattle.lanes.specs.Calls.{no_answer, told_in, outcome_in}
use Rattle.lanes.specs.declared.Answer.{Answer}
use Rattle.lanes.specs.declared.Outcome.TheVariants as outcome

pub record StockWritten (s : Stock) (before after : List ℕ) (r : Answer) : Type 0 where
  pub pairs : List Pair
  pub plan : is_plan s pairs ≡ true
  pub answers : Answers (plan_and_sheet s pairs) before (told_in (Ok r)) after
  pub outcome : r.outcome ≡ outcome.Stock
  pub small : r.size ≤ room

pub record StockAnswered (caller : ℕ) (file buffer : List ℕ) (r : Result Answer Refusal) (after : List ℕ) : Type 0 where
  pub owes : StockOwes caller file buffer (told_in r) after
  pub outcome : outcome_in r ≡ stock_outcome caller file (length buffer)
  pub small : (value_or no_answer r).size ≤ room
