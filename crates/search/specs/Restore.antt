-- Path restoration: the path that the labels give, pushed to a list of arc numbers in a slice that is lent.
--   Route g L stop v p         p is the path that the labels give from stop to v
--   LabelTable g L             labels that rest on nodes with smaller birth numbers
--   Restorable g L stop v at size    there is such a path, with room for it from place `at` on
--   Restored g L stop v w w'         it was pushed
use Rattle.std.specs.Prelude.{◌≡◌, ◌⊎◌, true, List, ℕ, ◌+◌, ◌*◌, ◌≤◌, ◌<◌, length, get_or}
use Rattle.counting.specs.SliceVecs.{Extended}
use Rattle.counting.specs.declared.slice_vec.SliceVec.{SliceVec}
use Rattle.skew.specs.Graph.{Graph, mate}
use Rattle.skew.specs.Paths.{tail, head}
use Rattle.skew.specs.Segments.{Seg}
use Rattle.arcs.specs.Table.{ArcTable}
use Rattle.search.specs.Tables.{Labels, is_reached}

abbrev pub Route : Graph → Labels → (stop v : ℕ) → List ℕ → Type 0
Route g L = Seg g (is_reached L) (λ (u : ℕ). get_or L.vias u 0)

pub record LabelTable (g : Graph) (L : Labels) : Type 0 where
  pub table : ArcTable g
  pub births_long : length L.births ≡ 2 * g.pairs
  pub vias_long : length L.vias ≡ 2 * g.pairs
  pub tail_earlier : (v : ℕ) → is_reached L v ≡ true → get_or L.vias v 0 < length g.arcs →
      get_or L.births (tail g (get_or L.vias v 0)) 0 < get_or L.births v 0
  pub head_earlier : (v : ℕ) → is_reached L v ≡ true → get_or L.vias v 0 < length g.arcs →
      (head g (get_or L.vias v 0) ≡ v) ⊎ (get_or L.births (mate (head g (get_or L.vias v 0))) 0 < get_or L.births v 0)

pub record Restorable (g : Graph) (L : Labels) (stop v at size : ℕ) : Type 0 where
  pub labels : LabelTable g L
  pub path : List ℕ
  pub route : Route g L stop v path
  pub room : at + length path ≤ size

abbrev pub Restored : Graph → (L : Labels) (stop v : ℕ) (w w' : SliceVec ℕ) → Type 0
Restored g L stop v w w' = (p : List ℕ) → Route g L stop v p → Extended w p w'
