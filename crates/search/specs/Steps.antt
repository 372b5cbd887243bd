-- The steps of a search on its tables: what each function is given and what it leaves.
--   Leaving g L k i                arc i leaves a reached node
--   NewHead g L k i                and leads to a node that is new, as is its mate
--   Joining g L k i                and its head's mate is reached
--   Bridging g L k i               and it is not settled
--   NodeWithin L w                 the node w stands within the tables
--   head_reached L k i w            the labels once arc i has reached its head w
--   TreeStepped g L k i L'         the tree step was taken
--   birth_after, base_after          a node's birth number and base after a bud step, by the mark of its base
--   births_after, bases_after     what a table is mapped by: births and bases after a bud step
--   labelled L v e                 the labels, with e for v where v is not reached
--   Absorbs g L marks q e          the base q can be marked, its mate labelled e, and its base arc followed
--   Absorbed g L marks q e .. r    that was done; r is the base of the fragment above
--   MarksFit L marks b             there is a mark for each node, so that bases stand within the marks, and so does b, as its mate
--   Ascended g L k i L' marks b    the bases to absorb stand in the marks, the new labels' arcs in L'; b absorbs them
--   Later g st new                 what every step keeps
--   born_before births k u          u was reached before the event k
--   BudStepped g L k i L'          the bud step was taken
use Rattle.std.specs.Prelude.{◌≡◌, ◌⊎◌, Bool, true, false, List, ℕ, ◌+◌, ◌*◌, ◌/◌, ◌<◌, ltb, eqb, length, get_or, set}
use Rattle.formats.specs.Limits.{arcs_most}
use Rattle.counting.specs.Tests.{pick}
use Rattle.skew.specs.Graph.{Graph, mate, nodes}
use Rattle.skew.specs.Paths.{tail, head}
use Rattle.skew.specs.Search.{State, parent_base}
use Rattle.skew.specs.Steps.{TreeStep, Absorbable, SettledArc}
use Rattle.skew.specs.Ascent.{Unsettled}
use Rattle.search.specs.Tables.{Labels, labels}
use Rattle.search.specs.State.{state_in, StateHeld, SearchHeld, absorbed_in, vias_of}

-- AN ARC AT HAND
pub record Leaving (g : Graph) (L : Labels) (k i : ℕ) : Type 0 where
  pub held : SearchHeld g L k
  pub is_arc : i < length g.arcs
  pub tail_reached : (state_in L k).reached (tail g i) ≡ true

pub record NewHead (g : Graph) (L : Labels) (k i : ℕ) : Type 0 where
  pub leaving : Leaving g L k i
  pub head_new : (state_in L k).reached (head g i) ≡ false
  pub mate_new : (state_in L k).reached (mate (head g i)) ≡ false

pub record Joining (g : Graph) (L : Labels) (k i : ℕ) : Type 0 where
  pub leaving : Leaving g L k i
  pub mate_reached : (state_in L k).reached (mate (head g i)) ≡ true

pub record Bridging (g : Graph) (L : Labels) (k i : ℕ) : Type 0 where
  pub joining : Joining g L k i
  pub unsettled : Unsettled g (state_in L k) i (tail g i) (mate (head g i))

-- THE TREE STEP
pub record NodeWithin (L : Labels) (w : ℕ) : Type 0 where
  pub in_births : w < length L.births
  pub in_vias : w < length L.vias
  pub in_bases : w / 2 < length L.bases

abbrev pub head_reached : Labels → (clock arc head : ℕ) → Labels
head_reached L k i w = labels (set L.births w k) (set L.vias w i) (set L.bases (w / 2) w)

pub record TreeStepped (g : Graph) (L : Labels) (k i : ℕ) (L' : Labels) : Type 0 where
  pub state : StateHeld g L' (k + 1)
  pub step : TreeStep g (state_in L k) i (state_in L' (k + 1))

-- THE BUD STEP
abbrev pub birth_after : (birth : ℕ) (mark : Bool) (clock : ℕ) → ℕ
birth_after birth mark k = pick (eqb birth 0) (pick mark k birth) birth

abbrev pub base_after : (base : ℕ) (mark : Bool) (to : ℕ) → ℕ
base_after base mark d = pick mark d base

abbrev pub births_after : (bases : List ℕ) (marks : List Bool) (clock : ℕ) → ℕ → ℕ → ℕ
births_after bases marks k u birth = birth_after birth (get_or marks (get_or bases (u / 2) 0) false) k

abbrev pub bases_after : (marks : List Bool) (to : ℕ) → ℕ → ℕ → ℕ
bases_after marks d u base = base_after base (get_or marks base false) d

abbrev pub labelled : Labels → (node arc : ℕ) → Labels
labelled L v e = labels L.births (pick (eqb (get_or L.births v 0) 0) (set L.vias v e) L.vias) L.bases

pub record Absorbs (g : Graph) (L : Labels) (marks : List Bool) (q e : ℕ) : Type 0 where
  pub small : q < arcs_most
  pub in_marks : q < length marks
  pub in_vias : q < length L.vias
  pub mate_in_births : mate q < length L.births
  pub mate_in_vias : mate q < length L.vias
  pub is_arc : get_or (labelled L (mate q) e).vias q 0 < length g.arcs
  pub in_bases : tail g (get_or (labelled L (mate q) e).vias q 0) / 2 < length L.bases

pub record Absorbed (g : Graph) (L : Labels) (marks : List Bool) (q e : ℕ) (L' : Labels) (marks' : List Bool) (r : ℕ) : Type 0 where
  pub marks_are : marks' ≡ set marks q true
  pub labels_are : L' ≡ labelled L (mate q) e
  pub parent : r ≡ get_or L.bases (tail g (get_or (labelled L (mate q) e).vias q 0) / 2) 0

pub record MarksFit (L : Labels) (marks : List Bool) (b : ℕ) : Type 0 where
  pub pairs : length L.births ≡ 2 * length L.bases
  pub marks_long : length L.births ≡ length marks
  pub base_marked : (j : ℕ) → j < length L.bases → get_or L.bases j 0 < length marks
  pub small : b < 256
  pub mate_small : mate b < 256
  pub mate_in_births : mate b < length L.births

pub record Ascended (g : Graph) (L : Labels) (k i : ℕ) (L' : Labels) (marks : List Bool) (b : ℕ) : Type 0 where
  pub births_same : L'.births ≡ L.births
  pub bases_same : L'.bases ≡ L.bases
  pub absorbable : Absorbable g (state_in L k) (absorbed_in marks) b (vias_of L'.vias)
  pub some : ((c : ℕ) × (absorbed_in marks c ≡ true)) ⊎ ((state_in L k).reached (mate b) ≡ false)
  pub is_node : b < nodes g
  pub vias_long : length L'.vias ≡ nodes g
  pub marks_long : length marks ≡ nodes g
  pub parents : (c : ℕ) → absorbed_in marks c ≡ true →
      (absorbed_in marks (parent_base g (state_in L k) c) ≡ true) ⊎ (parent_base g (state_in L k) c ≡ b)
  pub tail_in : (absorbed_in marks ((state_in L k).base (tail g i)) ≡ true) ⊎ ((state_in L k).base (tail g i) ≡ b)
  pub head_in : (absorbed_in marks ((state_in L k).base (head g i)) ≡ true) ⊎ ((state_in L k).base (head g i) ≡ b)

pub record Later (g : Graph) (st new : State) : Type 0 where
  pub reached_still : (u : ℕ) → st.reached u ≡ true → new.reached u ≡ true
  pub settled_still : (j : ℕ) → j < length g.arcs → SettledArc g st j → SettledArc g new j

abbrev pub born_before : (births : List ℕ) (clock node : ℕ) → Bool
born_before births k u = pick (eqb (get_or births u 0) k) false (ltb 0 (get_or births u 0))

pub record BudStepped (g : Graph) (L : Labels) (k i : ℕ) (L' : Labels) : Type 0 where
  pub state : StateHeld g L' (k + 1)
  pub later : Later g (state_in L k) (state_in L' (k + 1))
  pub settled : SettledArc g (state_in L' (k + 1)) i
  pub born : (u : ℕ) → born_before L'.births k u ≡ (state_in L k).reached u
