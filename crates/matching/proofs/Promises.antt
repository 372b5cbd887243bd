-- The promises, kept for every well-formed stock.
--   well_formed_fits, well_formed_lit     what a well-formed stock gives the theory
--   greatest_is                           document 03's GreatestIs
--   marks_are                             document 03's MarksAre, with mark 3 (document 02, L2)
--   gain_few, budget_bounds, budget_plans, some_budgeted, budgets_add     a budget of searches (document 02, L4)
use mathlib.Core.Path.{◌≡◌}
use mathlib.Core.Bool.{true}
use lib.Dec.{ltb}
use lib.ListN.{length}
use borrow.Author.Tests.{ltb-true}
use Rattle.counting.specs.Tests.{all}
use Rattle.counting.specs.Pairs.{pair_named}
use Rattle.counting.proofs.Booleans.{and_right, and_both}
use Rattle.counting.proofs.Membership.{all_each}
use Rattle.matching.specs.Stock.{Stock, has_pair, none_shared, is_pairing}
use Rattle.matching.specs.Matching.{FitsBelow}
use Rattle.matching.specs.Promise.{WellFormedStock, GreatestIs, MarksAre}
use Rattle.matching.specs.Budget.{GainFew, BudgetBounds, BudgetPlans, SomeBudgeted, BudgetsAdd}
use Rattle.matching.proofs.Rising.{rise_rising}
use Rattle.matching.proofs.Greatest.{greatest_bound, greatest_pairing}
use Rattle.matching.proofs.Marks.{mark_means}
use Rattle.matching.proofs.Plans as plans
use Rattle.matching.proofs.Plans.{budgeted_some, budgeted_plan, none_missing, some_plan, gain_half, budgeted_bound}

pub well_formed_fits : (s : Stock) → WellFormedStock s → FitsBelow s.cameras s.fits
well_formed_fits s w =
    record {
      rising = rise_rising s.fits w.rising;
      named = λ x m. ltb-true _ _ (and_right (ltb x.first s.cameras) _ (all_each (pair_named s.cameras) s.fits w.named x m));
    }

pub well_formed_lit : (s : Stock) → WellFormedStock s → is_pairing s.fits s.lit ≡ true
well_formed_lit s w = and_both (all (has_pair s.fits) s.lit) (none_shared s.lit) w.lit_fits w.lit_apart

pub greatest_is : GreatestIs
greatest_is s ps w = (
  greatest_bound s.cameras s.fits (well_formed_fits s w) ps,
  greatest_pairing s.fits,
  some_plan s (well_formed_fits s w) (well_formed_lit s w) w.lit_rising,
)

pub marks_are : MarksAre
marks_are s u m w h = mark_means s.cameras s.fits (well_formed_fits s w) u m

-- A BUDGET OF SEARCHES
pub gain_few : GainFew
gain_few s w = gain_half s (well_formed_fits s w) (well_formed_lit s w)

pub budget_bounds : BudgetBounds
budget_bounds s b ps w = budgeted_bound s (well_formed_fits s w) (well_formed_lit s w) b ps

pub budget_plans : BudgetPlans
budget_plans s b ps w more = (
  budgeted_plan s (well_formed_fits s w) (well_formed_lit s w) b more ps,
  none_missing s (well_formed_fits s w) (well_formed_lit s w) b more (length ps),
)

pub some_budgeted : SomeBudgeted
some_budgeted s b w = budgeted_some s (well_formed_fits s w) (well_formed_lit s w) w.lit_rising b

pub budgets_add : BudgetsAdd
budgets_add s b c ps qs w = plans.budgets_add s (well_formed_fits s w) (well_formed_lit s w) b c ps qs
