-- The canonical barrier's classes, told node by node (document 01, "The barrier").
--   Exhausted g L           the end of a search that did not reach the source's mate
--   end_state B              the state at that end
--   InBud g L v             v lies in a bud: it and its mate are reached
--   RootFound g L v r       r is the base at the root of v's tree of buds
--   firsts_before g v        how many nodes below v are the first of their part
--   NumberTold n P t P' r    r is the number n of the part at the root t; where there is none, the next one, which P' has for t
--   Numbering g L v P        P has the numbers of the parts of the nodes below v, at their roots, and the next one
use Rattle.std.specs.Prelude.{◌≡◌, true, false, ◌&&◌, Option, Some, None, ℕ, ◌+◌, ◌*◌, ◌/◌, ◌≤◌, ◌<◌, ltb, length, get_or, set}
use Rattle.counting.specs.Tests.{keep}
use Rattle.skew.specs.Graph.{Graph, mate, part_number, is_first, x_nodes}
use Rattle.skew.specs.Search.{State}
use Rattle.skew.specs.Steps.{Closed}
use Rattle.skew.specs.Forest.{BothReached, root_of}
use Rattle.search.specs.Tables.{Labels, is_reached}
use Rattle.search.specs.State.{state_in, SearchHeld}
use Rattle.search.specs.declared.classes.Parts.{Parts}

pub record Exhausted (g : Graph) (L : Labels) : Type 0 where
  pub clock : ℕ
  pub search : SearchHeld g L clock
  pub closed : Closed g (state_in L clock)
  pub shut : (state_in L clock).reached (mate g.source) ≡ false

abbrev pub end_state : {g : Graph} {L : Labels} → Exhausted g L → State
end_state {L = L} B = state_in L B.clock

pub record InBud (g : Graph) (L : Labels) (v : ℕ) : Type 0 where
  pub exhausted : Exhausted g L
  pub is_node : v < 2 * g.pairs
  pub reached : is_reached L v ≡ true
  pub mate_reached : is_reached L (mate v) ≡ true

pub record RootFound (g : Graph) (L : Labels) (v r : ℕ) : Type 0 where
  pub is_node : r < 2 * g.pairs
  pub is : (B : Exhausted g L) → r ≡ root_of g (end_state B) v

abbrev pub firsts_before : Graph → ℕ → ℕ
firsts_before g v = length (keep (λ (w : ℕ). ltb w v && is_first g w) (x_nodes g))

abbrev pub NumberTold : (found : Option ℕ) (P : Parts) (root : ℕ) (P' : Parts) (r : ℕ) → Type 0
NumberTold (Some n) P t P' r = (P' ≡ P) × (r ≡ n)
NumberTold None P t P' r = (P'.numbers ≡ set P.numbers t (Some P.next)) × (P'.next ≡ P.next + 1) × (r ≡ P.next)

pub record Numbering (g : Graph) (L : Labels) (v : ℕ) (P : Parts) : Type 0 where
  pub exhausted : Exhausted g L
  pub long : 2 * g.pairs ≤ length P.numbers
  -- a root's number is that of its tree's part
  pub numbered : (u : ℕ) → u < v → BothReached (end_state exhausted) u →
      get_or P.numbers (root_of g (end_state exhausted) u) None ≡ Some (3 + part_number g u)
  pub known : (t n : ℕ) → get_or P.numbers t None ≡ Some n →
      (u : ℕ) × (u < v) × BothReached (end_state exhausted) u × (root_of g (end_state exhausted) u ≡ t)
  pub count : P.next ≡ 3 + firsts_before g v
  pub next_few : P.next ≤ 3 + (v + 1) / 2
