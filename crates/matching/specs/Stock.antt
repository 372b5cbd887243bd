-- Stocks, pairings, the greatest number of pairs, marks and plans (document 01, "Stocks"; the definitions are document 03's). A fit is an edge,
-- a pairing a matching, the marks of cameras that have a fit are the Gallai-Edmonds decomposition, and a camera without one is an isolated vertex
-- (document 02, L2).
--   Stock                                         cameras, fits and lit pairs
--   same_pair x y, same_pairs xs ys               the same pair; the same pairs in the same order
--   has_pair xs x                                 the pair is one of these
--   touches x u, is_included xs u                 the camera is in the pair; in one of the pairs
--   meets x y, none_shared xs                     two pairs have a camera in common; no two of them do
--   is_pairing fs ps                              fits, no camera in two
--   with_first x pss, all_pairings fs             those pairings to which x can be added, with x; every pairing of the fits
--   most_of pss, greatest fs                      the most pairs that one of these has; that a pairing of the fits has
--   left_over fs u, fits_left_over fs u           some largest pairing leaves the camera over; it fits one that is so left over
--   pairing_mark fs u                             document 03's mark, by pairings alone: 0 so left over, 1 fits such a camera, 2 neither
--   mark_of fs u                                  a camera's mark: 3 if it has no fit, else that
--   marks_from fs us, marks_of n fs               the marks of some cameras; of all
--   pair_before x y, pairs_rise xs                by first camera, then by second; smaller camera first, rising so
--   keeps_lit s ps                                every lit camera is still lit
--   is_plan s ps                                  a largest pairing that keeps lit cameras lit; the lit pairs if they are largest
use Rattle.std.specs.Prelude.{Bool, true, false, ◌&&◌, ◌||◌, not, List, [], ◌∷◌, ◌++◌, ℕ, ltb, eqb, length}
use Rattle.counting.specs.Tests.{pick, all, any, below}
use Rattle.counting.specs.declared.Pair.{Pair}

-- A STOCK: cameras, fits and lit pairs
pub record Stock : Type 0 where
  pub cameras : ℕ
  pub fits : List Pair
  pub lit : List Pair

abbrev pub same_pair : Pair → Pair → Bool
same_pair x y = eqb x.first y.first && eqb x.second y.second

unfoldable pub has_pair : List Pair → Pair → Bool
has_pair [] x = false
has_pair (y ∷ ys) x = same_pair x y || has_pair ys x

abbrev pub touches : Pair → (camera : ℕ) → Bool
touches x u = eqb x.first u || eqb x.second u

abbrev pub is_included : List Pair → (camera : ℕ) → Bool
is_included xs u = any (λ (x : Pair). touches x u) xs

abbrev pub meets : Pair → Pair → Bool
meets x y = touches x y.first || touches x y.second

-- A PAIRING: fits, no camera in two
unfoldable pub none_shared : List Pair → Bool
none_shared [] = true
none_shared (x ∷ xs) = not (any (meets x) xs) && none_shared xs

abbrev pub is_pairing : List Pair → (pairs : List Pair) → Bool
is_pairing fs ps = all (has_pair fs) ps && none_shared ps

-- all pairings, each once: fits taken or left in order
unfoldable pub with_first : Pair → List (List Pair) → List (List Pair)
with_first x [] = []
with_first x (ps ∷ rest) = pick (any (meets x) ps) (with_first x rest) ((x ∷ ps) ∷ with_first x rest)

unfoldable pub all_pairings : List Pair → List (List Pair)
all_pairings [] = [] ∷ []
all_pairings (x ∷ xs) = with_first x (all_pairings xs) ++ all_pairings xs

unfoldable pub most_of : List (List Pair) → ℕ
most_of [] = 0
most_of (ps ∷ rest) = pick (ltb (most_of rest) (length ps)) (length ps) (most_of rest)

abbrev pub greatest : List Pair → ℕ
greatest fs = most_of (all_pairings fs)

-- MARKS: 3 it has no fit; else 0 some largest pairing leaves it over; 1 it fits such a camera; 2 neither
abbrev pub left_over : List Pair → (camera : ℕ) → Bool
left_over fs u = any (λ (ps : List Pair). eqb (length ps) (greatest fs) && not (is_included ps u)) (all_pairings fs)

abbrev pub fits_left_over : List Pair → (camera : ℕ) → Bool
fits_left_over fs u =
    any (λ (x : Pair). (eqb x.first u && left_over fs x.second) || (eqb x.second u && left_over fs x.first)) fs

abbrev pub pairing_mark : List Pair → (camera : ℕ) → ℕ
pairing_mark fs u = pick (left_over fs u) 0 (pick (fits_left_over fs u) 1 2)

abbrev pub mark_of : List Pair → (camera : ℕ) → ℕ
mark_of fs u = pick (is_included fs u) (pairing_mark fs u) 3

unfoldable pub marks_from : List Pair → (cameras : List ℕ) → List ℕ
marks_from fs [] = []
marks_from fs (u ∷ us) = mark_of fs u ∷ marks_from fs us

abbrev pub marks_of : (cameras : ℕ) → List Pair → List ℕ
marks_of n fs = marks_from fs (below n)

-- A PLAN: a largest pairing that leaves no lit camera unlit; the lit pairs if they are largest; smaller camera first, rising
abbrev pub pair_before : Pair → Pair → Bool
pair_before x y = ltb x.first y.first || (eqb x.first y.first && ltb x.second y.second)

unfoldable pub pairs_rise : List Pair → Bool
pairs_rise [] = true
pairs_rise (x ∷ []) = ltb x.first x.second
pairs_rise (x ∷ y ∷ rest) = ltb x.first x.second && pair_before x y && pairs_rise (y ∷ rest)

unfoldable pub same_pairs : List Pair → List Pair → Bool
same_pairs [] [] = true
same_pairs [] (y ∷ ys) = false
same_pairs (x ∷ xs) [] = false
same_pairs (x ∷ xs) (y ∷ ys) = same_pair x y && same_pairs xs ys

abbrev pub keeps_lit : Stock → (pairs : List Pair) → Bool
keeps_lit s ps = all (λ (u : ℕ). not (is_included s.lit u) || is_included ps u) (below s.cameras)

abbrev pub is_plan : Stock → (pairs : List Pair) → Bool
is_plan s ps =
    is_pairing s.fits ps && eqb (length ps) (greatest s.fits) && keeps_lit s ps && pairs_rise ps &&
    (not (eqb (length s.lit) (greatest s.fits)) || same_pairs ps s.lit)
