-- A budget of searches (document 02, L4). A search lights one lane more or finds that none can be lit; they stop after `most` of them, or after one that
-- found none. Numbers are fixed; of the pairing it is said what holds of it, and which one is left free.
--   gain s                           greatest pairs less lit pairs
--   gained s most                    so many pairs more are lit
--   searches_run s most               so many searches are run
--   found_none s most                 the last of them found none
--   missing s most pairs             lanes at most still missing: none after a search that found none, else half the cameras left over, rounded down
--   is_budgeted s most ps             a pairing of the fits with so many pairs more, lit cameras lit, rising; the lit pairs where there is no pair more
--   SearchNumbers, search_one_by_one most gain     the searches one by one: how many were run, how many found a pair, and whether the last found none
--   OneByOneIs                       whatever the gain, they come to the smaller of the two numbers; of a stock, to the numbers above
--   GainFew                          twice the gain is at most the cameras
--   BudgetBounds                     the greatest number is never above the pairs and the lanes missing
--   BudgetPlans                      with more searches than there is gain it is the plans that are budgeted, and no lane is missing
--   SomeBudgeted                     there is such a pairing for every budget
--   BudgetsAdd                       pairs that a second budget comes to, from those of a first, are such as both at once may come to
use Rattle.std.specs.Prelude.{◌≡◌, Bool, true, false, ◌&&◌, ◌||◌, not, List, ℕ, zero, suc, ◌+◌, ◌-◌, ◌*◌, ◌/◌, min, ◌≤◌, ◌<◌, ltb, eqb, length}
use Rattle.counting.specs.Tests.{pick}
use Rattle.counting.specs.declared.Pair.{Pair}
use Rattle.matching.specs.Stock.{Stock, is_pairing, greatest, pairs_rise, same_pairs, keeps_lit, is_plan}
use Rattle.matching.specs.Promise.{WellFormedStock}

abbrev pub gain : Stock → ℕ
gain s = greatest s.fits - length s.lit

abbrev pub gained : Stock → (most : ℕ) → ℕ
gained s b = min (gain s) b

abbrev pub searches_run : Stock → (most : ℕ) → ℕ
searches_run s b = min (suc (gain s)) b

abbrev pub found_none : Stock → (most : ℕ) → Bool
found_none s b = ltb (gain s) b

abbrev pub missing : Stock → (most pairs : ℕ) → ℕ
missing s b k = pick (found_none s b) 0 ((s.cameras - 2 * k) / 2)

abbrev pub is_budgeted : Stock → (most : ℕ) → (pairs : List Pair) → Bool
is_budgeted s b ps =
    is_pairing s.fits ps && eqb (length ps) (length s.lit + gained s b) && keeps_lit s ps && pairs_rise ps &&
    (not (eqb (gained s b) 0) || same_pairs ps s.lit)

-- ONE BY ONE
pub record SearchNumbers : Type 0 where
  pub searches : ℕ
  pub found : ℕ
  pub none : Bool

-- no search is left; one, and there is nothing to gain; one that finds a pair, and then the others
unfoldable pub search_one_by_one : (most gain : ℕ) → SearchNumbers
search_one_by_one zero g = record { searches = 0; found = 0; none = false }
search_one_by_one (suc b) zero = record { searches = 1; found = 0; none = true }
search_one_by_one (suc b) (suc g) = record { searches = suc (search_one_by_one b g).searches; found = suc (search_one_by_one b g).found; none = (search_one_by_one b g).none }

abbrev pub OneByOneIs : Type 0
OneByOneIs =
    ((b g : ℕ) → search_one_by_one b g ≡ record { searches = min (suc g) b; found = min g b; none = ltb g b }) ×
    ((s : Stock) (b : ℕ) → search_one_by_one b (gain s) ≡ record { searches = searches_run s b; found = gained s b; none = found_none s b })

-- PROMISES
abbrev pub GainFew : Type 0
GainFew = (s : Stock) → WellFormedStock s → 2 * gain s ≤ s.cameras

abbrev pub BudgetBounds : Type 0
BudgetBounds =
    (s : Stock) (b : ℕ) (ps : List Pair) → WellFormedStock s → is_budgeted s b ps ≡ true →
    greatest s.fits ≤ length ps + missing s b (length ps)

abbrev pub BudgetPlans : Type 0
BudgetPlans =
    (s : Stock) (b : ℕ) (ps : List Pair) → WellFormedStock s → gain s < b →
    (is_budgeted s b ps ≡ is_plan s ps) × (missing s b (length ps) ≡ 0)

abbrev pub SomeBudgeted : Type 0
SomeBudgeted = (s : Stock) (b : ℕ) → WellFormedStock s → (ps : List Pair) × (is_budgeted s b ps ≡ true)

abbrev pub BudgetsAdd : Type 0
BudgetsAdd =
    (s : Stock) (b c : ℕ) (ps qs : List Pair) → WellFormedStock s → is_budgeted s b ps ≡ true →
    is_budgeted (record { cameras = s.cameras; fits = s.fits; lit = ps }) c qs ≡ true → is_budgeted s (b + c) qs ≡ true
