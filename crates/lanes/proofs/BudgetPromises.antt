-- The budgeted call's promises, kept for every file and every budget.
--   budget_numbers, budget_bounds, budget_plans     the numbers in its bytes; the bound; with searches enough a plan
--   same_refusals, some_budget                      its refusals are the stock's; something is owed of everything
use mathlib.Core.Path.{◌≡◌, refl, sym, ap, ◌∙◌}
use mathlib.Core.Bool.{true}
use mathlib.Core.List.{List}
use Prim.Native.Nat.{ℕ, suc, ◌+◌, ◌*◌, ◌≤◌, ◌<◌}
use native.Mathlib.Omega.{arith}
use lib.Dec.{leb, eqb}
use lib.ListN.{length, drop}
use borrow.Author.Tests.{eqb-true, eqb-false, leb-true, le-leb}
use Rattle.formats.specs.Limits.{searches_most}
use Rattle.counting.specs.declared.Pair.{Pair}
use Rattle.counting.proofs.Booleans.{by_test, true_false}
use Rattle.frames.specs.Frames.{or_else}
use Rattle.frames.proofs.Questions.{or_none}
use Rattle.matching.specs.Stock.{Stock, greatest}
use Rattle.matching.specs.Promise.{WellFormedStock}
use Rattle.matching.specs.Budget.{gain, gained, searches_run, found_none, missing, is_budgeted}
use Rattle.matching.proofs.Matchings.{list_count}
use Rattle.matching.proofs.Plans.{budgeted_parts}
use Rattle.matching.proofs.Promises as matching
use Rattle.matching.proofs.Promises.{well_formed_fits}
use Rattle.pairing.proofs.SearchRuns.{enough_searches}
use Rattle.files.specs.StockFile.{stock_in, stock_fault}
use Rattle.files.specs.Answers.{over}
use Rattle.files.proofs.AcceptedFiles.{accepted_stock, stock_few}
use Rattle.files.proofs.AnswerLines.{budget_size}
use Rattle.files.proofs.BudgetBytes.{budget_header}
use Rattle.lanes.specs.Entry.{most_fault, budget_fault, searched, budget_text_of, BudgetOwes, SearchedTold}
use Rattle.lanes.proofs.CallFaults.{call_none}
use Rattle.lanes.specs.BudgetPromise.{pairs_said, searches_said, missing_said, BudgetNumbers, BudgetBounds, BudgetPlans, SameRefusals, SomeBudget}

-- what the questions settle
asked : (c b : ℕ) (f : List ℕ) (n : ℕ) → budget_fault c b f n ≡ 0 → (b ≤ searches_most) × (stock_fault f ≡ 0)
asked c b f n e =
    let h = or_none (most_fault b) (stock_fault f) (call_none c n (or_else (most_fault b) (stock_fault f)) e) in (
      by_test (leb b searches_most) (λ t. leb-true b searches_most t) (λ t. let z : ◌≡◌ {A = ℕ} 15 0 = rw t at h.0 in absurd (omega arith)),
      h.1,
    )

-- AN ACCEPTED FILE
module _ (c b : ℕ) (f o v : List ℕ) (r : SearchedTold) (e : budget_fault c b f (length o) ≡ 0) (B : BudgetOwes c b f o r v) where
  abbrev s : Stock
  s = stock_in f

  few_searches : b ≤ searches_most
  few_searches = (asked c b f (length o) e).0

  none : stock_fault f ≡ 0
  none = (asked c b f (length o) e).1

  abbrev W : WellFormedStock s
  W = accepted_stock f none

  abbrev ps : List Pair
  ps = (B.1 e).0

  abbrev right : is_budgeted s b ps ≡ true
  right = (B.1 e).1.0

  abbrev told : r ≡ searched 0 (length (budget_text_of s b ps)) (searches_run s b)
  told = (B.1 e).1.1

  abbrev leaves : v ≡ over (budget_text_of s b ps) o
  leaves = (B.1 e).1.2

  few : 2 * length ps ≤ 127
  few =
      let c = list_count s.cameras s.fits (well_formed_fits s W) ps (budgeted_parts s b ps right).pairing in
      omega (arith, stock_few f none)

  lanes_few : missing s b (length ps) < 256
  lanes_few = by_test (found_none s b) (λ t. rw t (omega arith)) (λ t. rw t (omega (arith, stock_few f none)))

  said : (pairs_said v ≡ length ps) × (searches_said v ≡ searches_run s b) × (missing_said v ≡ missing s b (length ps))
  said =
      let h =
      budget_header (searches_run s b) (missing s b (length ps)) ps (drop (length (budget_text_of s b ps)) o) (omega (arith, few)) (omega (arith, few_searches)) lanes_few in
      (ap pairs_said leaves ∙ h.0, ap searches_said leaves ∙ h.1, ap missing_said leaves ∙ h.2)

  numbers : (pairs_said v ≡ length s.lit + gained s b) × (searches_said v ≡ searches_run s b) × (missing_said v ≡ missing s b (pairs_said v)) ×
      (r.searches ≡ searches_said v) × (r.told.size ≡ 16 + 7 * pairs_said v)
  numbers = (
    said.0 ∙ (budgeted_parts s b ps right).count,
    said.1,
    said.2 ∙ ap (missing s b) (sym said.0),
    ap (λ (x : SearchedTold). x.searches) told ∙ sym said.1,
    ap (λ (x : SearchedTold). x.told.size) told ∙ budget_size (searches_run s b) (missing s b (length ps)) ps ∙ ap (λ (k : ℕ). 16 + 7 * k) (sym said.0),
  )

  bounds : greatest s.fits ≤ pairs_said v + missing_said v
  bounds = omega (arith, said.0, said.2, matching.budget_bounds s b ps W right)

pub budget_numbers : BudgetNumbers
budget_numbers = numbers

pub budget_bounds : BudgetBounds
budget_bounds = bounds

pub budget_plans : BudgetPlans
budget_plans c f o v r e B =
    let P = B.1 e in
    let accepted = (asked c searches_most f (length o) e).1 in
    let w = accepted_stock f accepted in
    let enough = enough_searches (stock_in f) w (stock_few f accepted) in
    let m = matching.budget_plans (stock_in f) searches_most P.0 w enough in
    let run : searches_run (stock_in f) searches_most ≡ suc (gain (stock_in f)) = omega arith in
    (P.0, (sym m.0 ∙ P.1.0, rw (run, m.1) at P.1.1, rw (run, m.1) at P.1.2))

-- ALL FILES
pub same_refusals : SameRefusals
same_refusals c b f n h = rw (le-leb b searches_most h)

pub some_budget : SomeBudget
some_budget c b f o =
    let n = budget_fault c b f (length o) in
    by_test (eqb n 0)
    (λ t.
    let e = eqb-true n 0 t in
    let q = matching.some_budgeted (stock_in f) b (accepted_stock f (asked c b f (length o) e).1) in
    let text = budget_text_of (stock_in f) b q.0 in (
      searched 0 (length text) (searches_run (stock_in f) b),
      (over text o, (λ y. true_false t y, λ _. (q.0, (q.1, refl, refl)))),
    ))
    (λ t. (searched n 0 0, (o, (λ _. (refl, refl), λ y. absurd (eqb-false n 0 t y)))))
