-- A pairing as an involution p on cameras, a matching of the graph whose edges are the fits: p k ≡ k where camera k is unlit, else {k, p k} is a fit.
-- A list of pairs (document 03's is_pairing) is the other form of the same thing.
--   FitsBelow n fs     the fits rise, smaller camera first, and name cameras below n
--   Fits fs u v        u and v fit each other
--   Matching fs p      p is an involution that pairs only cameras that fit each other
--   is_unlit, unlit     the cameras that p leaves over
--   Lights n ps p      ps and p light the same cameras, all below n, each once
--   partner ps k       the camera paired with k in ps, k itself where there is none
--   is_lit, lit_fits     the fits that p lights, in the order of the fits
--   pair_of k w         camera k with its partner w, where that is the larger
--   pairs_in_order p ks       each camera of ks with its partner, where that is the larger
use Rattle.std.specs.Prelude.{◌≡◌, ◌⊎◌, ◌≢◌, Bool, List, [], ◌∷◌, ◌++◌, ℕ, ◌<◌, ltb, eqb}
use Rattle.counting.specs.Tests.{pick, below, keep}
use Rattle.counting.specs.Lists.{In, Distinct}
use Rattle.counting.specs.Pairs.{pair, ends}
use Rattle.counting.specs.declared.Pair.{Pair}
use Rattle.matching.specs.Pairs.{Rising}

pub record FitsBelow (n : ℕ) (fs : List Pair) : Type 0 where
  pub rising : Rising fs
  pub named : (x : Pair) → In x fs → x.second < n

abbrev pub Fits : (fits : List Pair) → (one other : ℕ) → Type 0
Fits fs u v = In (pair u v) fs ⊎ In (pair v u) fs

pub record Matching (fs : List Pair) (p : ℕ → ℕ) : Type 0 where
  pub back : (k : ℕ) → p (p k) ≡ k
  pub fit : (k : ℕ) → p k ≢ k → Fits fs k (p k)

abbrev pub is_unlit : (partner : ℕ → ℕ) → (camera : ℕ) → Bool
is_unlit p k = eqb (p k) k

unfoldable pub unlit : (cameras : ℕ) → (partner : ℕ → ℕ) → List ℕ
unlit n p = keep (is_unlit p) (below n)

pub record Lights (n : ℕ) (ps : List Pair) (p : ℕ → ℕ) : Type 0 where
  pub once : Distinct (ends ps)
  pub lit : (k : ℕ) → In k (ends ps) → (k < n) × (p k ≢ k)
  pub all : (k : ℕ) → p k ≢ k → In k (ends ps)

-- FROM A LIST
unfoldable pub partner : List Pair → (camera : ℕ) → ℕ
partner [] k = k
partner (x ∷ xs) k = pick (eqb k x.first) x.second (pick (eqb k x.second) x.first (partner xs k))

-- TO A LIST
abbrev pub is_lit : (partner : ℕ → ℕ) → Pair → Bool
is_lit p x = eqb (p x.first) x.second

unfoldable pub lit_fits : (partner : ℕ → ℕ) → (fits : List Pair) → List Pair
lit_fits p fs = keep (is_lit p) fs

abbrev pub pair_of : (camera partner : ℕ) → List Pair
pair_of k w = pick (ltb k w) (pair k w ∷ []) []

unfoldable pub pairs_in_order : (partner : ℕ → ℕ) → (cameras : List ℕ) → List Pair
pairs_in_order p [] = []
pairs_in_order p (k ∷ ks) = pair_of k (p k) ++ pairs_in_order p ks
