-- The state of a search for a regular path to the source's mate, and its invariant. The nodes of one base are a fragment (document 000, section
-- 3.1): a node and its mate alone, or a bud (document 000, section 2.2; document 001, section 7.1) with all its nodes reached.
--   State                  what is known of each node, and the clock
--   IsBase st b            b is reached and its own base
--   InFragment st b x      x has base b
--   Plain st b             b's fragment is b and its mate alone
--   parent_base g st b     the base of the tail of via b
--   BaseArc g st b         via b leads to b from a fragment with an earlier base
--   ReachedEnds g st i     the arc's tail and its head's mate are reached
--   Earlier g st v         via v rests on nodes reached before v
--   Invariant g st         what every step keeps
--   Started g st           the source alone is reached
use Rattle.std.specs.Prelude.{◌≡◌, ◌⊎◌, ◌≢◌, Bool, true, false, ℕ, ◌-◌, ◌%◌, ◌≤◌, ◌<◌, length}
use Rattle.skew.specs.Graph.{Graph, mate}
use Rattle.skew.specs.Paths.{tail, head}
use Rattle.skew.specs.Segments.{LabelledPath}

-- which nodes are reached; each node's base; the arc and the event by which a node was reached; the number of the next event. An event is a tree
-- step or the forming of a bud: all nodes that a bud reaches have one birth
pub record State : Type 0 where
  pub reached : ℕ → Bool
  pub base : ℕ → ℕ
  pub via : ℕ → ℕ
  pub birth : ℕ → ℕ
  pub clock : ℕ

pub record IsBase (st : State) (b : ℕ) : Type 0 where
  pub reached : st.reached b ≡ true
  pub self : st.base b ≡ b

abbrev pub InFragment : State → ℕ → ℕ → Type 0
InFragment st b x = st.base x ≡ b

abbrev pub Plain : State → ℕ → Type 0
Plain st b = (x : ℕ) → st.base x ≡ b → (x ≡ b) ⊎ (x ≡ mate b)

abbrev pub parent_base : Graph → State → ℕ → ℕ
parent_base g st b = st.base (tail g (st.via b))

pub record BaseArc (g : Graph) (st : State) (b : ℕ) : Type 0 where
  pub is_arc : st.via b < length g.arcs
  pub head_is : head g (st.via b) ≡ b
  pub tail_reached : st.reached (tail g (st.via b)) ≡ true
  pub base_earlier : st.birth (st.base (tail g (st.via b))) < st.birth b

pub record ReachedEnds (g : Graph) (st : State) (i : ℕ) : Type 0 where
  pub tail_reached : st.reached (tail g i) ≡ true
  pub mate_reached : st.reached (mate (head g i)) ≡ true

-- via v leads to v itself, or the mate of its head was reached before v too
pub record Earlier (g : Graph) (st : State) (v : ℕ) : Type 0 where
  pub tail_reached : st.reached (tail g (st.via v)) ≡ true
  pub tail_earlier : st.birth (tail g (st.via v)) < st.birth v
  pub head_mate : (head g (st.via v) ≡ v) ⊎
      ((st.reached (mate (head g (st.via v))) ≡ true) × (st.birth (mate (head g (st.via v))) < st.birth v))

pub record Invariant (g : Graph) (st : State) : Type 0 where
  -- the source is reached, is its own base, was reached first, and by no arc
  pub source_reached : st.reached g.source ≡ true
  pub source_base : st.base g.source ≡ g.source
  pub source_first : (u : ℕ) → st.reached u ≡ true → st.birth g.source ≤ st.birth u
  pub source_via : st.via g.source ≡ length g.arcs
  -- fragments are closed under mates
  pub base_mate : (u : ℕ) → st.base (mate u) ≡ st.base u
  -- a reached node's base is reached and its own base
  pub base_base : (u : ℕ) → st.reached u ≡ true → IsBase st (st.base u)
  -- the labels give a regular path from the base to each reached node, within the fragment
  pub path : (u : ℕ) → st.reached u ≡ true → LabelledPath g (InFragment st (st.base u)) st.reached st.via (st.base u) u
  -- all of a reached fragment is reached, but for the base's mate of a plain one
  pub whole : (b u : ℕ) → IsBase st b → st.base u ≡ b → (st.reached u ≡ true) ⊎ (Plain st b × (u ≡ mate b))
  -- fragments are joined to earlier ones by their bases' arcs
  pub base_arc : (b : ℕ) → IsBase st b → b ≢ g.source → BaseArc g st b
  -- births are before the clock, and each label rests on earlier ones
  pub before_clock : (u : ℕ) → st.reached u ≡ true → st.birth u < st.clock
  pub via_earlier : (u : ℕ) → st.reached u ≡ true → u ≢ g.source → Earlier g st u
  -- where the base is not reached the fragment is the pair
  pub unreached_pair : (u : ℕ) → st.reached (st.base u) ≡ false → (u ≡ st.base u) ⊎ (u ≡ mate (st.base u))

pub record Started (g : Graph) (st : State) : Type 0 where
  pub reached_source : st.reached g.source ≡ true
  pub reached_only : (u : ℕ) → st.reached u ≡ true → u ≡ g.source
  pub base_source : (u : ℕ) → (u ≡ g.source) ⊎ (u ≡ mate g.source) → st.base u ≡ g.source
  pub base_other : (u : ℕ) → (u ≢ g.source) × (u ≢ mate g.source) → st.base u ≡ u - u % 2
  pub via_source : st.via g.source ≡ length g.arcs
  pub before_clock : st.birth g.source < st.clock
