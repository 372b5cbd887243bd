-- The loop of searches: each gives one pair more, but for one that finds no path and tells the reachable nodes.
--   NoPathLeft fits row reached             the row's doubled table has no path, and the table tells its reachable nodes
--   Stepped fits row row' reached r         one search: r, and one pair more; or none, and the table of nodes
--   Improving fits row₀ row k               k searches that gave a pair each: every lit camera is lit, and nothing has changed where k is 0
--   Ran most s row reached r                from the row of the lit pairs so many searches, and one more that found none; or as many as may be run
--   Found most s before after reached r     the pairs of a row that so many searches come to stand at the front of a table, and the last has told the nodes
--   BudgetListed most s before after r      the pairs that so many searches come to stand at the front of a table, with the numbers defined
--   PlanMarked s before after marks r       r pairs of a plan stand there, and the marks are those of the cameras, by cameras and fits alone
use Rattle.std.specs.Prelude.{◌≡◌, ◌≢◌, Bool, true, false, List, ℕ, suc, ◌+◌, ◌*◌, ◌<◌, length}
use Rattle.counting.specs.Tests.{below}
use Rattle.counting.specs.declared.Pair.{Pair}
use Rattle.skew.specs.Graph.{is_reachable, has_path}
use Rattle.matching.specs.Stock.{Stock, marks_of, is_plan}
use Rattle.matching.specs.Budget.{searches_run, found_none, is_budgeted}
use Rattle.matching.specs.Matching.{Matching, unlit, partner, pairs_in_order}
use Rattle.matching.specs.Rotation.{Augments}
use Rattle.matching.specs.Row.{partner_in}
use Rattle.matching.specs.Flags.{is_flagged}
use Rattle.matching.specs.DoubledTable.{doubled_table}
use Rattle.pairing.specs.Table.{Put}
use Rattle.pairing.specs.declared.plan.Ending.{Ending}
use Rattle.pairing.specs.declared.plan.PairsFound.{PairsFound}

pub record NoPathLeft (fits : List Pair) (row : List ℕ) (reached : List Bool) : Type 0 where
  pub no_path : has_path (doubled_table (length row) fits (partner_in row)) ≡ false
  pub tells : (v : ℕ) → v < 2 * suc (length row) → is_flagged reached v ≡ is_reachable (doubled_table (length row) fits (partner_in row)) v

pub record Stepped (fits : List Pair) (row row' : List ℕ) (reached : List Bool) (r : Bool) : Type 0 where
  pub more : r ≡ true → Augments (length row) fits (partner_in row) (partner_in row')
  pub none : r ≡ false → (row' ≡ row) × NoPathLeft fits row' reached

pub record Improving (fits : List Pair) (row₀ row : List ℕ) (k : ℕ) : Type 0 where
  pub long : length row ≡ length row₀
  pub matching : Matching fits (partner_in row)
  pub keeps : (c : ℕ) → partner_in row₀ c ≢ c → partner_in row c ≢ c
  pub count : length (unlit (length row) (partner_in row)) + 2 * k ≡ length (unlit (length row₀) (partner_in row₀))
  pub same : k ≡ 0 → row ≡ row₀

pub record Ran (most : ℕ) (s : Stock) (row : List ℕ) (reached : List Bool) (r : Ending) : Type 0 where
  pub start : List ℕ
  pub long : length start ≡ s.cameras
  pub start_lit : partner_in start ≡ partner s.lit
  pub found : ℕ
  pub improving : Improving s.fits start row found
  pub none : r.none ≡ true → (r.searches ≡ found + 1) × (found < most) × NoPathLeft s.fits row reached
  pub all : r.none ≡ false → (r.searches ≡ found) × (found ≡ most)

pub record Found (most : ℕ) (s : Stock) (before after : List Pair) (reached : List Bool) (r : PairsFound) : Type 0 where
  pub row : List ℕ
  pub ran : Ran most s row reached r.ending
  pub written : Put before 0 after r.pairs (pairs_in_order (partner_in row) (below (length row)))

pub record BudgetListed (most : ℕ) (s : Stock) (before after : List Pair) (r : PairsFound) : Type 0 where
  pub pairs : List Pair
  pub budgeted : is_budgeted s most pairs ≡ true
  pub searches : r.ending.searches ≡ searches_run s most
  pub none : r.ending.none ≡ found_none s most
  pub written : Put before 0 after r.pairs pairs

pub record PlanMarked (s : Stock) (before after : List Pair) (marks' : List ℕ) (r : ℕ) : Type 0 where
  pub pairs : List Pair
  pub plan : is_plan s pairs ≡ true
  pub written : Put before 0 after r pairs
  pub marks : marks' ≡ marks_of s.cameras s.fits
