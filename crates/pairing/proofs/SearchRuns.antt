-- From the lit pairs to what so many searches come to, and to a plan, by one search after the other.
--   enough_searches     question 15's most searches are enough for every stock
--   improving_start     the row of the lit pairs, before the first search
--   budget_listed       after a run: its numbers are those defined, and the row's pairs are such a pairing
--   plan_marked         with searches enough: the pairs are a plan, and the nodes that the last search reached tell the marks
use Rattle.std.proofs.Common.{◌≡◌, refl, sym, ap, subst, ◌∙◌, Bool, true, false, List, ℕ, suc, ◌+◌, ◌*◌, ◌≤◌, ◌<◌, length, arith}
use borrow.Author.Tests.{lt-ltb, le-ltb}
use Rattle.formats.specs.Limits.{cameras_most, searches_most}
use Rattle.counting.specs.Tests.{below}
use Rattle.counting.specs.declared.Pair.{Pair}
use Rattle.counting.proofs.Booleans.{by_test}
use Rattle.skew.specs.Graph.{is_reachable, has_path}
use Rattle.matching.specs.Stock.{Stock, is_included, is_pairing}
use Rattle.matching.specs.Promise.{WellFormedStock}
use Rattle.matching.specs.Budget.{gain, gained, searches_run, found_none}
use Rattle.matching.specs.Matching.{FitsBelow, Matching, unlit, partner, lit_fits, pairs_in_order}
use Rattle.matching.specs.Row.{partner_in}
use Rattle.matching.specs.Flags.{is_flagged}
use Rattle.matching.specs.DoubledTable.{doubled_table, marks_by}
use Rattle.matching.proofs.Matchings.{list_matching, list_count, lit_pairing, lit_count}
use Rattle.matching.proofs.InOrder.{pairs_lit}
use Rattle.matching.proofs.Greatest.{greatest_bound}
use Rattle.matching.proofs.Largest.{no_path_marks, no_path_pairs}
use Rattle.matching.proofs.Plans.{augmented_budgeted}
use Rattle.matching.proofs.Promises.{well_formed_fits, well_formed_lit, gain_few, budget_plans}
use Rattle.pairing.specs.Table.{StockTable}
use Rattle.pairing.specs.Plan.{NoPathLeft, Improving, Ran, Found, BudgetListed, PlanMarked}
use Rattle.pairing.specs.declared.plan.PairsFound.{PairsFound}

-- ENOUGH SEARCHES: 127 cameras have at most 63 pairs, and one more search tells that there is no other
pub enough_searches : (s : Stock) → WellFormedStock s → s.cameras ≤ cameras_most → gain s < searches_most
enough_searches s W few = omega (arith, gain_few s W)

-- A STOCK
module _ {s : Stock} (T : StockTable s) where
  abbrev n : ℕ
  n = s.cameras

  abbrev fs : List Pair
  fs = s.fits

  F : FitsBelow n fs
  F = well_formed_fits s T.well_formed

  lit : is_pairing fs s.lit ≡ true
  lit = well_formed_lit s T.well_formed

  -- a row read from the lit pairs, before the first search
  pub improving_start : {row : List ℕ} → partner_in row ≡ partner s.lit → Improving fs row row 0
  improving_start q =
      record { long = refl; matching = rw q (list_matching n fs F s.lit lit); keeps = λ c ne. ne; count = omega arith; same = λ _. refl }

  -- WHAT A RUN COMES TO
  module _ {most : ℕ} {before after : List Pair} {reached : List Bool} {r : PairsFound} (N : Found most s before after reached r) where
    abbrev row : List ℕ
    row = N.row

    abbrev R : Ran most s row reached r.ending
    R = N.ran

    abbrev p : ℕ → ℕ
    p = partner_in row

    abbrev I : Improving fs R.start row R.found
    I = R.improving

    abbrev M : Matching fs p
    M = I.matching

    same : length row ≡ n
    same = I.long ∙ R.long

    -- each search that found a path gave a pair
    grown : length (lit_fits p fs) ≡ length s.lit + R.found
    grown =
        let a : length (unlit (length row) p) ≡ length (unlit n p) = ap (λ (m : ℕ). length (unlit m p)) same in
        let b : length (unlit (length R.start) (partner_in R.start)) ≡ length (unlit n (partner s.lit)) =
        ap (λ (m : ℕ). length (unlit m (partner_in R.start))) R.long ∙ ap (λ (f : ℕ → ℕ). length (unlit n f)) R.start_lit in
        omega (arith, list_count n fs F s.lit lit, lit_count n fs F p M, I.count)

    no_path : NoPathLeft fs row reached → has_path (doubled_table n fs p) ≡ false
    no_path E = subst (λ (m : ℕ). has_path (doubled_table m fs p) ≡ false) same E.no_path

    -- a search that found none tells that the pairs are largest
    counts : (R.found ≡ gained s most) × (r.ending.searches ≡ searches_run s most) × (r.ending.none ≡ found_none s most)
    counts =
        let few = greatest_bound n fs F (lit_fits p fs) (lit_pairing n fs F p M) in
        let g = grown in
        by_test r.ending.none
        (λ t.
        let e = R.none t in
        let h = e.0 in
        let less = e.1 in
        let all = no_path_pairs n fs F p M (no_path e.2) in
        (omega arith, omega arith, t ∙ sym (lt-ltb (gain s) most (omega arith))))
        (λ t.
        let e = R.all t in
        let h = e.0 in
        let whole = e.1 in
        (omega arith, omega arith, t ∙ sym (le-ltb (gain s) most (omega arith))))

    pub budget_listed : BudgetListed most s before after r
    budget_listed =
        let found = counts.0 in
        let listed = ap (λ (l : List Pair). length l) (pairs_lit n fs F p M) in
        record {
          pairs = pairs_in_order p (below (length row));
          budgeted =
              rw same (augmented_budgeted s F lit T.well_formed.lit_rising most p M (λ c ne. I.keeps c (λ z. ne (sym (ap (λ (f : ℕ → ℕ). f c) R.start_lit) ∙ z))) (omega (arith, grown))
              (λ z. ap (λ (l : List ℕ). partner_in l) (I.same (omega arith)) ∙ R.start_lit));
          searches = counts.1;
          none = counts.2;
          written = N.written;
        }

    -- with more searches than there is gain the last one found none, and the pairs are a plan
    pub plan_marked : gain s < most → (marks₀ : List ℕ) {marks : List ℕ} → length marks₀ ≡ n →
        marks ≡ marks_by (is_included fs) (is_flagged reached) (below (length marks₀)) → PlanMarked s before after marks r.pairs
    plan_marked enough marks₀ l m =
        let E = (R.none (counts.2 ∙ lt-ltb (gain s) most enough)).2 in
        let B = budget_listed in
        record {
          pairs = B.pairs;
          plan = sym (budget_plans s most B.pairs T.well_formed enough).0 ∙ B.budgeted;
          written = B.written;
          marks =
              m ∙ ap (λ (k : ℕ). marks_by (is_included fs) (is_flagged reached) (below k)) l ∙
              sym (no_path_marks n fs F p M (no_path E) (is_flagged reached)
              (subst (λ (k : ℕ). (v : ℕ) → v < 2 * suc k → is_flagged reached v ≡ is_reachable (doubled_table k fs p) v) same E.tells));
        }
