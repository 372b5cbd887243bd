-- The tally: four sets of counts, one for each caller, and what calls in a row do to it (document 01, "Questions put to a call"; document 02, L7).
--   count_most, raised              a count's largest; one more below it
--   no_counts, added                no counts; a caller's counts with one more of the count that an outcome names
--   counts_of, tallied              a caller's counts in a tally; the tally with one more for a caller, where there is such a one
--   Asked, Call                     what is asked for, and of which caller, file and length of a buffer; or a check, which names no caller
--   OutcomeRule, outcome_of         how calls come out; the rule that holds of the calls here
--   tally_by, tally_after           the tally after a call, by a rule, and by that rule
--   after_calls                     the tally after calls in a row, each given what the last one left
use Rattle.std.specs.Prelude.{List, [], ◌∷◌, ℕ, suc, ltb, get_or, set}
use Rattle.formats.specs.Limits.{callers}
use Rattle.counting.specs.Tests.{pick}
use Rattle.lanes.specs.Entry.{graph_outcome, stock_outcome, budget_outcome}
use Rattle.lanes.specs.declared.Counts.{Counts}
use Rattle.lanes.specs.declared.Tally.{Tally}
use Rattle.lanes.specs.declared.Outcome.{Outcome}
use Rattle.lanes.specs.declared.Outcome.TheVariants.{Path, Barrier, Stock, Refusal}

-- ONE CALLER'S COUNTS: a count at its largest stays there
abbrev pub count_most : ℕ
count_most = 4294967295

abbrev pub raised : (count : ℕ) → ℕ
raised x = pick (ltb x count_most) (suc x) x

abbrev pub no_counts : Counts
no_counts = record { paths = 0; barriers = 0; stocks = 0; refusals = 0 }

abbrev pub added : Counts → Outcome → Counts
added k Path = record { paths = raised k.paths; barriers = k.barriers; stocks = k.stocks; refusals = k.refusals }
added k Barrier = record { paths = k.paths; barriers = raised k.barriers; stocks = k.stocks; refusals = k.refusals }
added k Stock = record { paths = k.paths; barriers = k.barriers; stocks = raised k.stocks; refusals = k.refusals }
added k Refusal = record { paths = k.paths; barriers = k.barriers; stocks = k.stocks; refusals = raised k.refusals }

-- FOUR SETS: a number that no caller has counts nowhere
abbrev pub counts_of : Tally → (caller : ℕ) → Counts
counts_of t c = get_or t.sets c no_counts

abbrev pub tallied : Tally → (caller : ℕ) → Outcome → Tally
tallied t c w = pick (ltb c callers) (record { sets = set t.sets c (added (counts_of t c) w) }) t

-- CALLS
pub data Asked : Type 0 where
  graph stock : Asked
  budget : (most : ℕ) → Asked

pub data Call : Type 0 where
  call : (caller : ℕ) → Asked → (file : List ℕ) → (size : ℕ) → Call
  check : (graph cert : List ℕ) → Call

abbrev pub OutcomeRule : Type 0
OutcomeRule = (caller : ℕ) → Asked → (file : List ℕ) → (size : ℕ) → Outcome

abbrev pub outcome_of : OutcomeRule
outcome_of c graph f n = graph_outcome c f n
outcome_of c stock f n = stock_outcome c f n
outcome_of c (budget b) f n = budget_outcome c b f n

abbrev pub tally_by : OutcomeRule → Tally → Call → Tally
tally_by h t (call c a f n) = tallied t c (h c a f n)
tally_by h t (check g k) = t

abbrev pub tally_after : Tally → Call → Tally
tally_after = tally_by outcome_of

unfoldable pub after_calls : OutcomeRule → Tally → List Call → Tally
after_calls h t [] = t
after_calls h t (k ∷ ks) = after_calls h (tally_by h t k) ks
