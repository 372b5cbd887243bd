-- Rotation of a matching: an unlit camera is lit with one that it fits, whose old partner becomes unlit. An augmenting path is a run of rotations.
--   rotate q u v            the matching q with u and v paired, v's old partner unlit
--   LeavesOver n fs p k q   q is a matching with as many pairs as p that leaves k over
--   Augments n fs p q       q is a matching with one pair more than p that keeps every lit camera lit
--   rotate_along g is q     the rotations of a path's arcs is, from a node of an unlit camera on: its arcs 0, 2, 4 and so on
--   Rotates n g is q        each of them is between different cameras below n
use Rattle.std.specs.Prelude.{◌≡◌, ◌≢◌, List, [], ◌∷◌, ℕ, ◌+◌, ◌/◌, ◌<◌, eqb, length}
use Rattle.counting.specs.Tests.{pick}
use Rattle.counting.specs.declared.Pair.{Pair}
use Rattle.skew.specs.Graph.{Graph, arc_at}
use Rattle.matching.specs.Matching.{Matching, unlit}

unfoldable pub rotate : (partner : ℕ → ℕ) → (unlit fitting : ℕ) → ℕ → ℕ
rotate q u v k = pick (eqb k u) v (pick (eqb k v) u (pick (eqb k (q v)) k (q k)))

pub record LeavesOver (n : ℕ) (fs : List Pair) (p : ℕ → ℕ) (k : ℕ) (q : ℕ → ℕ) : Type 0 where
  pub matching : Matching fs q
  pub left : q k ≡ k
  pub count : length (unlit n q) ≡ length (unlit n p)

pub record Augments (n : ℕ) (fs : List Pair) (p q : ℕ → ℕ) : Type 0 where
  pub matching : Matching fs q
  pub count : length (unlit n q) + 2 ≡ length (unlit n p)
  pub keeps : (k : ℕ) → p k ≢ k → q k ≢ k

-- ALONG A PATH
unfoldable pub rotate_along : Graph → (arcs : List ℕ) → (partner : ℕ → ℕ) → ℕ → ℕ
rotate_along g [] q = q
rotate_along g (i ∷ []) q = q
rotate_along g (i ∷ j ∷ rest) q = rotate_along g rest (rotate q ((arc_at g i).tail / 2) ((arc_at g i).head / 2))

abbrev pub Rotates : (cameras : ℕ) → Graph → (arcs : List ℕ) → (partner : ℕ → ℕ) → Type 0
Rotates n g [] q = Unit {0}
Rotates n g (i ∷ []) q = Unit {0}
Rotates n g (i ∷ j ∷ rest) q =
    (i < length g.arcs) × ((arc_at g i).tail / 2 < n) × ((arc_at g i).head / 2 < n) × (q ((arc_at g i).head / 2) < n) ×
    ((arc_at g i).tail / 2 ≢ (arc_at g i).head / 2) × Rotates n g rest (rotate q ((arc_at g i).tail / 2) ((arc_at g i).head / 2))
