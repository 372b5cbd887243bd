-- What the stock call answers: what is written is what it owes.
--   pairs_few, plan_few               a pairing that was handed out has at most 63 pairs; so has a plan
--   stock_written                     what is written is what is owed of the stock
--   stock_refused, stock_answered     what a refused call owes; what an answered one does
use mathlib.Core.Path.{◌≡◌, refl, sym, ap, subst, ◌∙◌}
use mathlib.Core.Bool.{true, false}
use mathlib.Core.List.{List, ◌++◌}
use Prim.Native.Nat.{ℕ, ◌≤◌}
use native.Mathlib.Omega.{arith}
use lib.Dec.{eqb}
use borrow.Author.Tests.{ne_eqb}
use lib.ListN.{length, take}
use Rattle.std.specs.Prelude.{Result, Ok}
use Rattle.std.specs.Result.{IsErr, IsErrAnd}
use Rattle.formats.specs.Limits.{cameras_most}
use Rattle.formats.specs.Refusals.{refusal_number}
use Rattle.formats.specs.declared.refusals.Refusal.{Refusal}
use Rattle.counting.specs.declared.Pair.{Pair}
use Rattle.counting.proofs.Booleans.{true_false}
use Rattle.matching.specs.Stock.{Stock, is_pairing, greatest}
use Rattle.pairing.specs.Table.{StockTable, Put}
use Rattle.pairing.specs.Plan.{PlanMarked}
use Rattle.pairing.proofs.ListedPairs.{plan_pairing, plan_greatest, listed_few, listed_read}
use Rattle.files.specs.StockFile.{sheet_with, sheet_text, stock_in, stock_fault, plan_text, plan_and_sheet}
use Rattle.files.specs.Answers.{WrittenFirst}
use Rattle.frames.proofs.Questions.{refusal_some, passed_on}
use Rattle.files.proofs.SheetBytes.{sheet_found, plan_sheet_size}
use Rattle.lanes.specs.Entry.{stock_call_fault}
use Rattle.lanes.specs.Calls.{CallAsked}
use Rattle.lanes.proofs.CallFaults.{call_passes}
use Rattle.lanes.specs.StockCalls.{StockWritten, StockAnswered}
use Rattle.lanes.specs.declared.Answer.{Answer}
use Rattle.lanes.specs.declared.Outcome.TheVariants as outcome

-- WRITTEN
pub pairs_few : {s : Stock} {before after : List Pair} {r : ℕ} {ps : List Pair} → StockTable s → is_pairing s.fits ps ≡ true → Put before 0 after r ps → r ≤ 63
pairs_few T P w = omega (arith, T.cameras_few, listed_few T.well_formed P w)

module _ {s : Stock} {xs ys : List Pair} {ms : List ℕ} {r : ℕ} (T : StockTable s) (P : PlanMarked s xs ys ms r) where
  pairing : is_pairing s.fits P.pairs ≡ true
  pairing = plan_pairing s P.pairs P.plan

  pub plan_few : r ≤ 63
  plan_few = pairs_few T pairing P.written

  -- the sheet's number is the plan's
  pub stock_written : cameras_most ≤ length xs → {before after : List ℕ} {size : ℕ} →
      WrittenFirst (plan_text (take r ys) ++ sheet_with (length (take r ys)) ms) before after size → StockWritten s before after (record { size = size; outcome = outcome.Stock })
  stock_written h {before} {after} {size} w =
      let few = T.cameras_few in
      let read : take r ys ≡ P.pairs = listed_read T.well_formed pairing P.written (omega arith) in
      let sheet : sheet_with (length P.pairs) ms ≡ sheet_text s.cameras s.fits =
      ap (λ (k : ℕ). sheet_with k ms) (plan_greatest s P.pairs P.plan) ∙ ap (sheet_with (greatest s.fits)) P.marks ∙ (sheet_found s.cameras s.fits).0 in
      let one = subst (λ (zs : List Pair). WrittenFirst (plan_text zs ++ sheet_with (length zs) ms) before after size) read w in
      let both : WrittenFirst (plan_and_sheet s P.pairs) before after size =
      subst (λ (t : List ℕ). WrittenFirst (plan_text P.pairs ++ t) before after size) sheet one in
      record {
        pairs = P.pairs;
        plan = P.plan;
        answers = (rw both.told, both.bytes);
        outcome = refl;
        small = omega (arith, both.told, plan_sheet_size s P.pairs, P.written.count, plan_few);
      }

-- THE CALL
module _ {c : ℕ} {f o : List ℕ} where
  pub stock_refused : (r : Result Answer Refusal) (e : Refusal) → IsErr r × IsErrAnd r (λ d. d ≡ e) → stock_call_fault c f (length o) ≡ refusal_number e → StockAnswered c f o r o
  stock_refused r e q is =
      let z : eqb (refusal_number e) 0 ≡ false = ne_eqb (refusal_number e) 0 (refusal_some e) in
      rw (passed_on q)
      (record { owes = (λ _. (rw (is, z), refl), λ y. absurd (refusal_some e (sym is ∙ y))); outcome = rw (is, z); small = omega arith })

  pub stock_answered : {u : Unit} {s : Stock} → stock_fault f ≡ 0 → s ≡ stock_in f → CallAsked c (length o) (Ok u) → {after : List ℕ} {r : Answer} →
      StockWritten s o after r → StockAnswered c f o (Ok r) after
  stock_answered none is A {after} {r} w =
      let v = subst (λ (s : Stock). StockWritten s o after r) is w in
      let e : stock_call_fault c f (length o) ≡ 0 = call_passes A (stock_fault f) ∙ none in
      let z : eqb (stock_call_fault c f (length o)) 0 ≡ true = rw e in
      record { owes = (λ y. true_false z y, λ _. (v.pairs, (v.plan, v.answers))); outcome = rw z v.outcome; small = v.small }
