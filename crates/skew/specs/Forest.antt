-- The buds of a state as a forest: a bud hangs on the bud that holds the tail of its base arc, where there is one. Its trees are the parts of X
-- (document 000, section 2.1).
--   BothReached st v         v and its mate are reached: v lies in a bud
--   BudBase st b             the base of a bud
--   entry_tail g st b        the tail of the base arc
--   root_from, root g st b   the base of the bud at the root of b's tree
--   root_of g st v           the same for a node
--   IsRoot g st b            the tail of the base arc lies in no bud
use Rattle.std.specs.Prelude.{◌≡◌, true, false, ℕ, zero, suc}
use Rattle.counting.specs.Tests.{pick}
use Rattle.skew.specs.Graph.{Graph, mate}
use Rattle.skew.specs.Paths.{tail}
use Rattle.skew.specs.Search.{State}

pub record BothReached (st : State) (v : ℕ) : Type 0 where
  pub reached : st.reached v ≡ true
  pub mate_reached : st.reached (mate v) ≡ true

pub record BudBase (st : State) (b : ℕ) : Type 0 where
  pub both : BothReached st b
  pub self : st.base b ≡ b

abbrev pub entry_tail : Graph → State → (base : ℕ) → ℕ
entry_tail g st b = tail g (st.via b)

-- births fall towards the root. Fuel: the birth
unfoldable pub root_from : ℕ → Graph → State → (base : ℕ) → ℕ
root_from zero g st b = b
root_from (suc n) g st b = pick (st.reached (mate (entry_tail g st b))) (root_from n g st (st.base (entry_tail g st b))) b

unfoldable pub root : Graph → State → (base : ℕ) → ℕ
root g st b = root_from (suc (st.birth b)) g st b

abbrev pub root_of : Graph → State → (node : ℕ) → ℕ
root_of g st v = root g st (st.base v)

pub record IsRoot (g : Graph) (st : State) (b : ℕ) : Type 0 where
  pub base : BudBase st b
  pub outside : st.reached (mate (entry_tail g st b)) ≡ false
