-- What the budgeted call answers: as the stock call does (StockCalls), with the searches that were run.
--   budget_few           a pairing of at most 63 pairs is handed out
--   budget_written       what is written is what is owed of the stock
--   most_refused, file_fault     past 17 and 1: question 15 is answered no; it is answered yes, and the others are the file's
--   budget_refused       what a refused call owes
--   budget_answered      what an answered call owes
--   as_answer            a call's answer as a stock's: it tells the same, and comes to the same
use mathlib.Core.Path.{◌≡◌, refl, sym, subst, ◌∙◌}
use mathlib.Core.Bool.{true, false}
use mathlib.Core.List.{List}
use Prim.Native.Nat.{ℕ, ◌-◌, ◌*◌, ◌/◌, ◌≤◌}
use native.Mathlib.Omega.{arith}
use lib.Dec.{eqb}
use borrow.Author.Tests.{ne_eqb}
use lib.ListN.{length, take}
use Rattle.std.specs.Prelude.{Result, Ok, Err, MatchResult, IsOkAnd}
use Rattle.std.specs.Result.{IsErr, IsErrAnd}
use Rattle.formats.specs.Limits.{cameras_most, searches_most}
use Rattle.formats.specs.Refusals.{refusal_number}
use Rattle.formats.specs.declared.refusals.Refusal.{Refusal}
use Rattle.counting.specs.Tests.{pick}
use Rattle.counting.specs.declared.Pair.{Pair}
use Rattle.counting.proofs.Booleans.{true_false}
use Rattle.frames.specs.Frames.{or_else}
use Rattle.matching.specs.Stock.{Stock, is_pairing}
use Rattle.matching.specs.Budget.{searches_run, missing}
use Rattle.matching.proofs.Plans.{budgeted_parts}
use Rattle.pairing.specs.Table.{StockTable}
use Rattle.pairing.specs.Plan.{BudgetListed}
use Rattle.pairing.specs.declared.plan.PairsFound.{PairsFound}
use Rattle.pairing.proofs.ListedPairs.{listed_few, listed_read}
use Rattle.files.specs.StockFile.{stock_in, stock_fault, budget_text}
use Rattle.files.specs.Answers.{WrittenFirst}
use Rattle.frames.proofs.Questions.{or_go, refusal_some, passed_on}
use Rattle.files.proofs.AnswerLines.{budget_size}
use Rattle.lanes.specs.Entry.{searched_of, most_fault, budget_fault, budget_text_of}
use Rattle.lanes.specs.Calls.{told_in, outcome_in, stock_answer, stock_answered, CallAsked}
use Rattle.lanes.specs.BudgetCalls.{BudgetWritten, BudgetAnswered}
use Rattle.lanes.specs.declared.Answer.{Answer}
use Rattle.lanes.specs.declared.Searched.{Searched}
use Rattle.lanes.proofs.CallFaults.{refused_first, call_passes}
use Rattle.lanes.proofs.StockCalls.{pairs_few}

-- WRITTEN
module _ {most : ℕ} {s : Stock} {xs ys : List Pair} {r : PairsFound} (T : StockTable s) (B : BudgetListed most s xs ys r) where
  pairing : is_pairing s.fits B.pairs ≡ true
  pairing = (budgeted_parts s most B.pairs B.budgeted).pairing

  pub budget_few : (r.pairs ≤ 63) × (2 * r.pairs ≤ s.cameras)
  budget_few = (pairs_few T pairing B.written, listed_few T.well_formed pairing B.written)

  pub budget_written : cameras_most ≤ length xs → most ≤ searches_most → {m : ℕ} → m ≡ pick r.ending.none 0 ((s.cameras - 2 * r.pairs) / 2) →
      {before after : List ℕ} {size : ℕ} → WrittenFirst (budget_text r.ending.searches m (take r.pairs ys)) before after size →
      BudgetWritten most s before after (record { size = size; searches = r.ending.searches })
  budget_written h few lanes {before} {after} {size} w =
      let cameras = T.cameras_few in
      let count : r.pairs ≡ length B.pairs = omega (arith, B.written.count) in
      let told : WrittenFirst (budget_text_of s most B.pairs) before after size =
      rw (listed_read T.well_formed pairing B.written (omega arith), lanes, B.none, B.searches, count) at w in
      record {
        pairs = B.pairs;
        budgeted = B.budgeted;
        told = rw (told.told, B.searches);
        leaves = told.bytes;
        small = omega (arith, told.told, budget_size (searches_run s most) (missing s most (length B.pairs)) B.pairs, budget_few.0);
        few = omega (arith, B.searches);
      }

-- THE CALL
module _ {c n : ℕ} {u : Unit} (A : CallAsked c n (Ok u)) (b : ℕ) (f : List ℕ) where
  pub most_refused : (e : Refusal) → refusal_number e ≡ most_fault b → budget_fault c b f n ≡ refusal_number e
  most_refused e is = call_passes A (or_else (most_fault b) (stock_fault f)) ∙ refused_first e is (stock_fault f)

  pub file_fault : 0 ≡ most_fault b → budget_fault c b f n ≡ stock_fault f
  file_fault none = call_passes A (or_else (most_fault b) (stock_fault f)) ∙ or_go (most_fault b) (stock_fault f) (sym none)

module _ {c b : ℕ} {f o : List ℕ} where
  pub budget_refused : (r : Result Searched Refusal) (e : Refusal) → IsErr r × IsErrAnd r (λ d. d ≡ e) → budget_fault c b f (length o) ≡ refusal_number e → BudgetAnswered c b f o r o
  budget_refused r e q is =
      let z : eqb (refusal_number e) 0 ≡ false = ne_eqb (refusal_number e) 0 (refusal_some e) in
      rw (passed_on q)
      (record {
        owes = (λ _. (rw (is, z), refl), λ y. absurd (refusal_some e (sym is ∙ y)));
        outcome = rw (is, z);
        small = omega arith;
        few = omega arith;
      })

  pub budget_answered : {u : Unit} {s : Stock} → stock_fault f ≡ 0 → s ≡ stock_in f → CallAsked c (length o) (Ok u) → 0 ≡ most_fault b → {after : List ℕ} {r : Searched} →
      BudgetWritten b s o after r → BudgetAnswered c b f o (Ok r) after
  budget_answered none is A few {after} {r} w =
      let v = subst (λ (s : Stock). BudgetWritten b s o after r) is w in
      let e : budget_fault c b f (length o) ≡ 0 = file_fault A b f few ∙ none in
      let z : eqb (budget_fault c b f (length o)) 0 ≡ true = rw e in
      record { owes = (λ y. true_false z y, λ _. (v.pairs, (v.budgeted, v.told, v.leaves))); outcome = rw z; small = v.small; few = v.few }

pub as_answer : (r : Result Searched Refusal) (q : Result Answer Refusal) → MatchResult r (λ x. IsOkAnd q (λ a. a ≡ stock_answer x)) (λ e. q ≡ Err e) →
    (told_in q ≡ (searched_of r).told) × (outcome_in q ≡ outcome_in (stock_answered r))
as_answer (Ok x) (Ok a) h = rw h (refl, refl)
as_answer (Ok x) (Err e) h = absurd h
as_answer (Err e) q h = rw h (refl, refl)
