-- The path that labels give: each reached node v but the start has an arc via v = (x, y), and the path to v goes to x, over the arc to y, and on
-- along the mates of the path from v's mate to y's mate. Where y is v that last part is empty.
--   Seg g reached via stop v p               p is the path so given from stop to v; labels are read at reached nodes only
--   LabelledPath g S reached via stop v      such a path that is regular, with all nodes in the set S
use Rattle.std.specs.Prelude.{◌≡◌, ◌≢◌, Bool, true, List, [], ◌∷◌, ◌++◌, ℕ, ◌<◌, length}
use Rattle.counting.specs.Lists.{reverse_map}
use Rattle.skew.specs.Graph.{Graph, mate}
use Rattle.skew.specs.Paths.{tail, head, RegularPath}

pub data Seg (g : Graph) (reached : ℕ → Bool) (via : ℕ → ℕ) : (stop v : ℕ) → List ℕ → Type 0 where
  done : {s : ℕ} → Seg g reached via s s []
  step : {s v : ℕ} {p q : List ℕ} → reached v ≡ true → v ≢ s → via v < length g.arcs → Seg g reached via s (tail g (via v)) p →
      Seg g reached via (mate v) (mate (head g (via v))) q → Seg g reached via s v (p ++ via v ∷ reverse_map mate q)

abbrev pub LabelledPath : Graph → (S : ℕ → Type 0) → (reached : ℕ → Bool) → (via : ℕ → ℕ) → (stop v : ℕ) → Type 0
LabelledPath g S reached via a v = (p : List ℕ) × RegularPath g S a v p × Seg g reached via a v p
