-- What the theory promises of every well-formed graph (document 03, demand 2; document 000, lemma 2.1 and theorem 2.2).
--   SomePath g w           some regular path from the source ends at w
--   ReachesByPathsIn g     a node is reachable exactly if some regular path ends there
--   PathOrBarrierIn g      without a path the canonical classes are a barrier; a path and a barrier exclude each other
use Rattle.std.specs.Prelude.{◌≡◌, ◌↔◌, true, false, List, ℕ}
use Rattle.skew.specs.Graph.{Graph, end_of, is_regular, is_wanted, is_reachable, has_path, is_barrier, canonical}

abbrev pub SomePath : Graph → (to : ℕ) → Type 0
SomePath g w = (is : List ℕ) × ((is_regular g is ≡ true) × (end_of g g.source is ≡ w))

abbrev pub ReachesByPathsIn : Graph → Type 0
ReachesByPathsIn g = (w : ℕ) → (is_reachable g w ≡ true) ↔ SomePath g w

abbrev pub PathOrBarrierIn : Graph → Type 0
PathOrBarrierIn g =
    (has_path g ≡ false → is_barrier g (canonical g) ≡ true) ×
    ((is cs : List ℕ) → is_wanted g is ≡ true → is_barrier g cs ≡ false)
