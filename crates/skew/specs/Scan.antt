-- Arcs are looked at one by one (document 000, section 2.3), in any order.
--   Looked g st looked             what the arcs looked at so far satisfy
--   LookedAt g scanned x a i       the order node by node: arc i leaves a scanned node, or the node x and has a number below a
--   Scanning g st scanned x a      the arcs of scanned nodes and of x below a were looked at
use Rattle.std.specs.Prelude.{◌≡◌, ◌⊎◌, Bool, true, ℕ, ◌<◌, length}
use Rattle.skew.specs.Graph.{Graph, mate}
use Rattle.skew.specs.Paths.{tail}
use Rattle.skew.specs.Search.{State}
use Rattle.skew.specs.Steps.{SettledArc, Touched}

pub record Looked (g : Graph) (st : State) (looked : ℕ → Type 0) : Type 0 where
  pub reached : (i : ℕ) → i < length g.arcs → looked i → st.reached (tail g i) ≡ true
  pub touched : (i : ℕ) → i < length g.arcs → looked i → Touched g st i
  pub settled : (i : ℕ) → i < length g.arcs → looked i → looked (mate i) → SettledArc g st i

abbrev pub LookedAt : Graph → (scanned : ℕ → Bool) → (x a i : ℕ) → Type 0
LookedAt g scanned x a i = (scanned (tail g i) ≡ true) ⊎ ((tail g i ≡ x) × (i < a))

abbrev pub Scanning : Graph → State → (scanned : ℕ → Bool) → (x a : ℕ) → Type 0
Scanning g st scanned x a = Looked g st (LookedAt g scanned x a)
