-- What the calls by value share (document 01, "Questions put to a call"): the questions before a file's, and what a result tells and comes to.
--   CallAsked caller size r          17, then 1, refuse, or neither does
--   no_answer                        what is written beside a refusal: nothing
--   told_in r                        a call's result, as it is told
--   outcome_in r                     what it comes to
--   stock_answer a                   a budgeted call's answer, as a stock's
--   stock_answered r                 its result so
use Rattle.std.specs.Prelude.{◌≡◌, Result, Ok, Err, ℕ}
use Rattle.formats.specs.Refusals.{refusal_in, value_or}
use Rattle.formats.specs.declared.refusals.Refusal.{Refusal}
use Rattle.lanes.specs.Entry.{call_fault, Told}
use Rattle.lanes.specs.declared.Answer.{Answer}
use Rattle.lanes.specs.declared.Searched.{Searched}
use Rattle.lanes.specs.declared.Outcome.{Outcome}
use Rattle.lanes.specs.declared.Outcome.TheVariants as outcome

pub record CallAsked (caller size : ℕ) (r : Result Unit Refusal) : Type 0 where
  pub is : refusal_in r ≡ call_fault caller size 0

abbrev pub no_answer : Answer
no_answer = record { size = 0; outcome = outcome.Refusal }

abbrev pub told_in : Result Answer Refusal → Told
told_in r = record { number = refusal_in r; size = (value_or no_answer r).size }

abbrev pub outcome_in : Result Answer Refusal → Outcome
outcome_in r = (value_or no_answer r).outcome

abbrev pub stock_answer : Searched → Answer
stock_answer a = record { size = a.size; outcome = outcome.Stock }

abbrev pub stock_answered : Result Searched Refusal → Result Answer Refusal
stock_answered (Ok a) = Ok (stock_answer a)
stock_answered (Err e) = Err e
