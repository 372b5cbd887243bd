-- What the budgeted call answers by value, and what is written for an accepted stock (document 02, L4).
--   BudgetWritten                  a pairing that so many searches come to stands at the front of a buffer and is told
--   BudgetAnswered                 what the call owes, in one record: result and buffer, what it came to, and that its numbers are small
use Rattle.std.specs.Prelude.{◌≡◌, true, Result, Ok, List, ℕ, ◌≤◌, length}
use Rattle.formats.specs.Limits.{room, searches_most}
use Rattle.formats.specs.Refusals.{value_or}
use Rattle.formats.specs.declared.refusals.Refusal.{Refusal}
use Rattle.counting.specs.declared.Pair.{Pair}
use Rattle.matching.specs.Stock.{Stock}
use Rattle.matching.specs.Budget.{searches_run, is_budgeted}
use Rattle.files.specs.Answers.{over}
use Rattle.lanes.specs.Entry.{searched, no_searches, searched_of, budget_text_of, BudgetOwes, budget_outcome}
use Rattle.lanes.specs.Calls.{outcome_in, stock_answered}
use Rattle.lanes.specs.declared.Searched.{Searched}

pub record BudgetWritten (most : ℕ) (s : Stock) (before after : List ℕ) (r : Searched) : Type 0 where
  pub pairs : List Pair
  pub budgeted : is_budgeted s most pairs ≡ true
  pub told : searched_of (Ok r) ≡ searched 0 (length (budget_text_of s most pairs)) (searches_run s most)
  pub leaves : after ≡ over (budget_text_of s most pairs) before
  pub small : r.size ≤ room
  pub few : r.searches ≤ searches_most

pub record BudgetAnswered (caller most : ℕ) (file buffer : List ℕ) (r : Result Searched Refusal) (after : List ℕ) : Type 0 where
  pub owes : BudgetOwes caller most file buffer (searched_of r) after
  pub outcome : outcome_in (stock_answered r) ≡ budget_outcome caller most file (length buffer)
  pub small : (value_or no_searches r).size ≤ room
  pub few : (value_or no_searches r).searches ≤ searches_most
