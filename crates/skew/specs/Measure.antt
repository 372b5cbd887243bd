-- A number that every step of a search lowers.
--   weigh, weight st u      a node's share: 2 where it and its mate are new, falling as they are reached and as bases are absorbed
--   total g st              the sum over all nodes
use Rattle.std.specs.Prelude.{Bool, true, false, ℕ, eqb}
use Rattle.counting.specs.Tests.{pick}
use Rattle.counting.specs.Sums.{sum}
use Rattle.skew.specs.Graph.{Graph, mate, nodes}
use Rattle.skew.specs.Search.{State}

abbrev pub weigh : (reached mate_reached own_base : Bool) → ℕ
weigh true b c = pick c 1 0
weigh false true c = pick c 2 1
weigh false false c = 2

abbrev pub weight : State → (node : ℕ) → ℕ
weight st u = weigh (st.reached u) (st.reached (mate u)) (eqb (st.base u) u)

abbrev pub total : Graph → State → ℕ
total g st = sum (weight st) (nodes g)
