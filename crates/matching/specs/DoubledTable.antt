-- The doubled table of a matching p (document 01, "Stocks"; document 001, section 2.1): camera k is nodes 2k and 2k+1, the source is 2n. First, for
-- each camera in turn, what p says of it; then the fits outside the pairing. Each arc is followed by its mate.
--   arcs_of_camera n k w         camera k with partner w: from the source if it is unlit; to its partner if that is the larger
--   arcs_of_fit u v w            a fit of u, whose partner is w, and v: both ways round, nothing if it is lit
--   camera_arcs, fit_arcs        the arcs of every camera and of every fit
--   doubled_table n fs p        the graph
--   ArcKind n fs p x           the arc x is of one of the four kinds
--   ArcBetween g v w           some arc of g goes from v to w
--   is_outer, is_inner           camera k with 2k reachable; with 2k+1 reachable and 2k not
--   reached_mark f k            read off the reachable nodes: 0 where 2k is reached, 1 where only 2k+1 is, else 2
--   mark_by h f k, marks_by h f ks     a camera's mark: 3 where it has no fit, else that; the marks of some cameras
use Rattle.std.specs.Prelude.{◌≡◌, ◌≢◌, Bool, ◌&&◌, not, List, [], ◌∷◌, ◌++◌, ℕ, suc, ◌+◌, ◌*◌, ◌<◌, ltb, eqb, length}
use Rattle.counting.specs.Tests.{pick, below}
use Rattle.counting.specs.declared.Pair.{Pair}
use Rattle.skew.specs.Graph.{arc, Graph, is_reachable}
use Rattle.skew.specs.declared.Arc.{Arc}
use Rattle.skew.specs.Paths.{tail, head}
use Rattle.matching.specs.Matching.{Fits}

abbrev pub arcs_of_camera : (cameras camera partner : ℕ) → List Arc
arcs_of_camera n k w =
    pick (eqb w k) (arc (2 * n) (2 * k) ∷ arc (2 * k + 1) (2 * n + 1) ∷ [])
    (pick (ltb k w) (arc (2 * k + 1) (2 * w) ∷ arc (2 * w + 1) (2 * k) ∷ []) [])

unfoldable pub camera_arcs : (cameras : ℕ) → (partner : ℕ → ℕ) → List ℕ → (rest : List Arc) → List Arc
camera_arcs n p [] rest = rest
camera_arcs n p (k ∷ ks) rest = arcs_of_camera n k (p k) ++ camera_arcs n p ks rest

abbrev pub arcs_of_fit : (one other partner : ℕ) → List Arc
arcs_of_fit u v w = pick (eqb w v) [] (arc (2 * u) (2 * v + 1) ∷ arc (2 * v) (2 * u + 1) ∷ [])

unfoldable pub fit_arcs : (partner : ℕ → ℕ) → (fits : List Pair) → List Arc
fit_arcs p [] = []
fit_arcs p (x ∷ xs) = arcs_of_fit x.first x.second (p x.first) ++ fit_arcs p xs

abbrev pub doubled_table : (cameras : ℕ) → (fits : List Pair) → (partner : ℕ → ℕ) → Graph
doubled_table n fs p = record { pairs = suc n; source = 2 * n; arcs = camera_arcs n p (below n) (fit_arcs p fs) }

pub data ArcKind (n : ℕ) (fs : List Pair) (p : ℕ → ℕ) (x : Arc) : Type 0 where
  from_source : (k : ℕ) → k < n → p k ≡ k → x.tail ≡ 2 * n → x.head ≡ 2 * k → ArcKind n fs p x
  to_mate : (k : ℕ) → k < n → p k ≡ k → x.tail ≡ 2 * k + 1 → x.head ≡ 2 * n + 1 → ArcKind n fs p x
  lit_fit : (k : ℕ) → k < n → p k < n → p k ≢ k → x.tail ≡ 2 * k + 1 → x.head ≡ 2 * p k → ArcKind n fs p x
  other_fit : (u v : ℕ) → Fits fs u v → p u ≢ v → x.tail ≡ 2 * u → x.head ≡ 2 * v + 1 → ArcKind n fs p x

abbrev pub ArcBetween : Graph → ℕ → ℕ → Type 0
ArcBetween g v w = (i : ℕ) × (i < length g.arcs) × (tail g i ≡ v) × (head g i ≡ w)

-- READ OFF THE REACHABLE NODES
abbrev pub is_outer : (cameras : ℕ) → (fits : List Pair) → (partner : ℕ → ℕ) → (camera : ℕ) → Bool
is_outer n fs p k = is_reachable (doubled_table n fs p) (2 * k)

abbrev pub is_inner : (cameras : ℕ) → (fits : List Pair) → (partner : ℕ → ℕ) → (camera : ℕ) → Bool
is_inner n fs p k = not (is_reachable (doubled_table n fs p) (2 * k)) && is_reachable (doubled_table n fs p) (2 * k + 1)

abbrev pub reached_mark : (reached : ℕ → Bool) → (camera : ℕ) → ℕ
reached_mark f k = pick (f (2 * k)) 0 (pick (f (2 * k + 1)) 1 2)

abbrev pub mark_by : (has_fit reached : ℕ → Bool) → (camera : ℕ) → ℕ
mark_by h f k = pick (h k) (reached_mark f k) 3

unfoldable pub marks_by : (has_fit reached : ℕ → Bool) → (cameras : List ℕ) → List ℕ
marks_by h f [] = []
marks_by h f (k ∷ ks) = mark_by h f k ∷ marks_by h f ks
