-- What is promised of callers and of the tally over any calls in a row, each given what the last one left (document 02, L7). The laws of the tally are
-- of any rule by which calls come out, so of outcome_of.
--   CallerFirst       17 is put before 1; a caller 0 to 3 is asked what else there is to ask, 1 first, and for a budget 15 next
--   WrongCaller       a call by 4 and above is told 17, and leaves the buffer
--   CallersAlike      the same is owed to callers 0 to 3, and it comes to the same
--   OutcomesAre       what a call comes to, by the first question answered no and by the graph
--   HasFour t                 a tally of four sets, as the code's has
--   CallsFollow       the tally after calls in a row is that after the others, begun with what the contract of the first one says; four sets stay four
--   count_in, count_of          a count, by its outcome, and by its caller and outcome
--   CountsOne n m             a count n, raised, is m; one at 4,294,967,295 remains
--   CallCounts        a call by a caller 0 to 3 raises by one that caller's count of what it came to, and leaves the other fifteen
--   is_counted, CallsLeave     a check, or a call by 4 and above, leaves the tally
--   is_by, own_calls            a caller's own calls among calls
--   added_by, counts_after      a caller's counts after a call, and after calls, of that caller
--   OwnCounts         a caller's counts after calls in a row are what they were, counted up by that caller's own calls
--   OwnAlone          they are what they would be after that caller's own calls alone
--   WhateverBetween   and the same after any calls among which that caller's own are the same, whatever the others' counts were
--   together, total_of         a caller's counts together, and all sixteen
--   AreBelow, counted_calls    no count has reached its largest; how many calls came from callers 0 to 3, checks aside
--   TotalFrom         while no count has reached its largest, all counts together have grown by the calls from callers 0 to 3
--   zeros, Total      so from zero they equal those calls
--   FewBelow          and fewer than 4,294,967,295 calls from zero bring no count to its largest
use Rattle.std.specs.Prelude.{◌≡◌, ◌↔◌, Bool, true, false, List, [], ◌∷◌, ℕ, suc, ◌+◌, ◌≤◌, ◌<◌, leb, eqb, length}
use Rattle.counting.specs.Sums.{sum}
use Rattle.counting.specs.Tests.{keep}
use Rattle.frames.specs.Frames.{or_else}
use Rattle.skew.specs.Graph.{has_path}
use Rattle.files.specs.GraphFile.{graph_in, graph_fault}
use Rattle.files.specs.StockFile.{stock_fault}
use Rattle.lanes.specs.Entry.{room_fault, answer_fault, GraphOwes, stock_call_fault, StockOwes, most_fault, budget_fault, BudgetOwes, Told, SearchedTold}
use Rattle.lanes.specs.Tallies.{no_counts, added, counts_of, Asked, graph, stock, budget, Call, call, check, OutcomeRule, outcome_of, tally_by, tally_after, after_calls}
use Rattle.lanes.specs.declared.Counts.{Counts}
use Rattle.lanes.specs.declared.Tally.{Tally}
use Rattle.lanes.specs.declared.Outcome.{Outcome}
use Rattle.lanes.specs.declared.Outcome.TheVariants.{Path, Barrier, Stock, Refusal}

-- QUESTION 17
abbrev pub CallerFirst : Type 0
CallerFirst =
    (c b : ℕ) (f : List ℕ) (n : ℕ) →
    (4 ≤ c → (answer_fault c f n ≡ 17) × (stock_call_fault c f n ≡ 17) × (budget_fault c b f n ≡ 17)) ×
    (c ≤ 3 →
    (answer_fault c f n ≡ or_else (room_fault n) (graph_fault f)) × (stock_call_fault c f n ≡ or_else (room_fault n) (stock_fault f)) ×
    (budget_fault c b f n ≡ or_else (room_fault n) (or_else (most_fault b) (stock_fault f))))

abbrev pub WrongCaller : Type 0
WrongCaller =
    (c : ℕ) (f o v : List ℕ) → 4 ≤ c →
    ((r : Told) → GraphOwes c f o r v → (r.number ≡ 17) × (r.size ≡ 0) × (v ≡ o)) ×
    ((r : Told) → StockOwes c f o r v → (r.number ≡ 17) × (r.size ≡ 0) × (v ≡ o)) ×
    ((b : ℕ) (r : SearchedTold) → BudgetOwes c b f o r v → (r.told.number ≡ 17) × (r.told.size ≡ 0) × (r.searches ≡ 0) × (v ≡ o))

abbrev pub CallersAlike : Type 0
CallersAlike =
    (c d : ℕ) (f : List ℕ) → c ≤ 3 → d ≤ 3 →
    ((o v : List ℕ) (r : Told) → GraphOwes c f o r v ↔ GraphOwes d f o r v) ×
    ((o v : List ℕ) (r : Told) → StockOwes c f o r v ↔ StockOwes d f o r v) ×
    ((b : ℕ) (o v : List ℕ) (r : SearchedTold) → BudgetOwes c b f o r v ↔ BudgetOwes d b f o r v) ×
    ((a : Asked) (n : ℕ) → outcome_of c a f n ≡ outcome_of d a f n)

abbrev pub OutcomesAre : Type 0
OutcomesAre =
    (c b : ℕ) (f : List ℕ) (n : ℕ) →
    (answer_fault c f n ≡ 0 → has_path (graph_in f) ≡ true → outcome_of c graph f n ≡ Path) ×
    (answer_fault c f n ≡ 0 → has_path (graph_in f) ≡ false → outcome_of c graph f n ≡ Barrier) ×
    (eqb (answer_fault c f n) 0 ≡ false → outcome_of c graph f n ≡ Refusal) ×
    (stock_call_fault c f n ≡ 0 → outcome_of c stock f n ≡ Stock) ×
    (eqb (stock_call_fault c f n) 0 ≡ false → outcome_of c stock f n ≡ Refusal) ×
    (budget_fault c b f n ≡ 0 → outcome_of c (budget b) f n ≡ Stock) ×
    (eqb (budget_fault c b f n) 0 ≡ false → outcome_of c (budget b) f n ≡ Refusal)

-- ONE CALL
abbrev pub HasFour : Tally → Type 0
HasFour t = length t.sets ≡ 4

abbrev pub CallsFollow : Type 0
CallsFollow =
    (t : Tally) (k : Call) (ks : List Call) →
    (after_calls outcome_of t [] ≡ t) × (after_calls outcome_of t (k ∷ ks) ≡ after_calls outcome_of (tally_after t k) ks) × (HasFour t → HasFour (tally_after t k))

abbrev pub count_in : Counts → Outcome → ℕ
count_in k Path = k.paths
count_in k Barrier = k.barriers
count_in k Stock = k.stocks
count_in k Refusal = k.refusals

abbrev pub count_of : Tally → (caller : ℕ) → Outcome → ℕ
count_of t c w = count_in (counts_of t c) w

abbrev pub CountsOne : (before after : ℕ) → Type 0
CountsOne n m = (n < 4294967295 → m ≡ suc n) × (4294967295 ≤ n → m ≡ n)

abbrev pub CallCounts : Type 0
CallCounts =
    (h : OutcomeRule) (t : Tally) (c : ℕ) (a : Asked) (f : List ℕ) (n : ℕ) → HasFour t → c ≤ 3 →
    CountsOne (count_of t c (h c a f n)) (count_of (tally_by h t (call c a f n)) c (h c a f n)) ×
    ((d : ℕ) (w : Outcome) → (d ≡ c → w ≡ h c a f n → ⊥) → count_of (tally_by h t (call c a f n)) d w ≡ count_of t d w)

abbrev pub is_counted : Call → Bool
is_counted (call c a f n) = leb c 3
is_counted (check g k) = false

abbrev pub CallsLeave : Type 0
CallsLeave = (h : OutcomeRule) (t : Tally) (k : Call) → is_counted k ≡ false → tally_by h t k ≡ t

-- A CALLER'S OWN CALLS
abbrev pub is_by : (caller : ℕ) → Call → Bool
is_by c (call d a f n) = eqb c d
is_by c (check g k) = false

abbrev pub own_calls : (caller : ℕ) → List Call → List Call
own_calls c ks = keep (is_by c) ks

abbrev pub added_by : OutcomeRule → Counts → Call → Counts
added_by h x (call c a f n) = added x (h c a f n)
added_by h x (check g k) = x

unfoldable pub counts_after : OutcomeRule → Counts → List Call → Counts
counts_after h x [] = x
counts_after h x (k ∷ ks) = counts_after h (added_by h x k) ks

abbrev pub OwnCounts : Type 0
OwnCounts =
    (h : OutcomeRule) (t : Tally) (ks : List Call) (c : ℕ) → HasFour t → c ≤ 3 →
    counts_of (after_calls h t ks) c ≡ counts_after h (counts_of t c) (own_calls c ks)

abbrev pub OwnAlone : Type 0
OwnAlone =
    (h : OutcomeRule) (t : Tally) (ks : List Call) (c : ℕ) → HasFour t → c ≤ 3 →
    counts_of (after_calls h t ks) c ≡ counts_of (after_calls h t (own_calls c ks)) c

abbrev pub WhateverBetween : Type 0
WhateverBetween =
    (h : OutcomeRule) (t u : Tally) (ks ls : List Call) (c : ℕ) → HasFour t → HasFour u → c ≤ 3 → counts_of t c ≡ counts_of u c →
    own_calls c ks ≡ own_calls c ls → counts_of (after_calls h t ks) c ≡ counts_of (after_calls h u ls) c

-- ALL COUNTS TOGETHER
abbrev pub together : Counts → ℕ
together k = k.paths + (k.barriers + (k.stocks + k.refusals))

abbrev pub total_of : Tally → ℕ
total_of t = sum (λ c. together (counts_of t c)) 4

abbrev pub AreBelow : Tally → Type 0
AreBelow t = (c : ℕ) (w : Outcome) → c ≤ 3 → count_of t c w < 4294967295

abbrev pub counted_calls : List Call → ℕ
counted_calls ks = length (keep is_counted ks)

abbrev pub TotalFrom : Type 0
TotalFrom =
    (h : OutcomeRule) (t : Tally) (ks : List Call) → HasFour t → AreBelow (after_calls h t ks) →
    total_of (after_calls h t ks) ≡ total_of t + counted_calls ks

abbrev pub zeros : Tally
zeros = record { sets = no_counts ∷ no_counts ∷ no_counts ∷ no_counts ∷ [] }

abbrev pub Total : Type 0
Total =
    (h : OutcomeRule) (ks : List Call) → AreBelow (after_calls h zeros ks) → total_of (after_calls h zeros ks) ≡ counted_calls ks

abbrev pub FewBelow : Type 0
FewBelow = (h : OutcomeRule) (ks : List Call) → length ks < 4294967295 → AreBelow (after_calls h zeros ks)
