-- The state of a search, as the lent tables hold it.
--   state_in L k              the state that labels and clock make
--   state_of T                the state that the tables of a search hold
--   StateHeld g L k           a state with the invariant; the clock is bounded by the steps still to come
--   SearchHeld g L k          such a state over an arc table
--   Clear none size xs        a table of nothing but `none`
--   absorbed_in marks         the bases marked for absorption
--   vias_of vias              the labels' arcs
use Rattle.std.specs.Prelude.{◌≡◌, Bool, List, ℕ, ◌+◌, ◌-◌, ◌/◌, ◌%◌, ◌≤◌, ◌<◌, length, get_or, false}
use Rattle.skew.specs.Graph.{Graph, nodes}
use Rattle.skew.specs.Search.{State, Invariant}
use Rattle.skew.specs.Measure.{total}
use Rattle.arcs.specs.Table.{ArcTable}
use Rattle.search.specs.Tables.{Labels, is_reached, Tables}

abbrev pub state_in : Labels → (clock : ℕ) → State
state_in L k =
    record {
      reached = is_reached L;
      base = λ (u : ℕ). get_or L.bases (u / 2) (u - u % 2);
      via = λ (u : ℕ). get_or L.vias u 0;
      birth = λ (u : ℕ). get_or L.births u 0;
      clock = k;
    }

abbrev pub state_of : Tables → State
state_of T = state_in T.labels T.clock

pub record StateHeld (g : Graph) (L : Labels) (k : ℕ) : Type 0 where
  pub invariant : Invariant g (state_in L k)
  pub births_long : length L.births ≡ nodes g
  pub vias_long : length L.vias ≡ nodes g
  pub bases_long : length L.bases ≡ g.pairs
  pub base_node : (j : ℕ) → j < g.pairs → get_or L.bases j 0 < nodes g
  pub clock_late : 0 < k
  pub clock_bound : k + total g (state_in L k) ≤ 1000

pub record SearchHeld (g : Graph) (L : Labels) (k : ℕ) : Type 0 where
  pub table : ArcTable g
  pub state : StateHeld g L k

pub record Clear {A : Type 0} (none : A) (size : ℕ) (xs : List A) : Type 0 where
  pub long : length xs ≡ size
  pub each : (u : ℕ) → get_or xs u none ≡ none

abbrev pub absorbed_in : (marks : List Bool) → ℕ → Bool
absorbed_in marks u = get_or marks u false

abbrev pub vias_of : (vias : List ℕ) → ℕ → ℕ
vias_of vias u = get_or vias u 0
