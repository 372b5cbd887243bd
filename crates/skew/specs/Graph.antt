-- Doubled (skew-symmetric) graphs, regular paths, barriers and the canonical barrier (document 01, "The graph" and "The barrier"; document 000,
-- section 2; the definitions are document 03's).
--   arc v w                                     the arc from v to w
--   no_arc                                      the arc of zeros, read past a list's end
--   arc_of x, arcs_of xs                         a pair of numbers as an arc, its first the tail, its second the head; each pair of a list
--   Graph                                      mate pairs of nodes, the source, and arcs in file order
--   mate v, nodes g, arc_at g i                 the mate of a node or an arc; how many nodes there are; the arc i
--   are_mates x y, mates_fit xs                  two arcs are mates; each odd-numbered arc is the mate of the one before
--   has_two_ends x                               the arc leads from a node to another one (document 02, L5); a graph may have others
--   nodes_along g v p, end_of g v p              the nodes along the arcs p from v; the last of them
--   is_joined g v p, no_mates p                  arcs of g, each starting where the one before ended, the first at v; no arc with its mate
--   is_regular g p, is_wanted g p                a regular path from the source; one to the source's mate
--   reaches_from n g v w ss us                  w is reached from v, by trial, over n arcs at most, without the nodes ss and the mates of the arcs us
--   is_reachable g w, has_path g                 some regular path from the source ends at w; at the source's mate
--   class_at cs v                               a node's class: 0 for M, 1 for A, 2 for A', 3 for X1 and so on
--   isX c, isXM c                              the class of an Xi; of an Xi or M
--   largest_of xs                               the largest element
--   mate_class c, mates_agree cs v               the class that mates have; v's mate has it
--   entries_into cs c xs                        how many arcs lead from A into class c
--   arc_fits cs x                               no arc between two different Xi, between an Xi and M, or from A into A' or M
--   is_barrier g cs                             the classes are a barrier
--   inX g v, x_nodes g                          a node and its mate are reachable; all such nodes
--   joins_in g v w                              an arc joins the two nodes, either way
--   part_once g ms vs, part_by n g ms vs         vs with the members of ms that are joined to it; the same n times over
--   part_of g v, least_of a xs                   the connected part of X with v; the least of a and xs
--   is_first g v, part_number g v                v is the least of its part; how many parts begin before that of v
--   class_of g v, classes_from g vs, canonical g      the canonical barrier: of a node, of some, of all in order
use Rattle.std.specs.Prelude.{Bool, true, ◌&&◌, ◌||◌, not, List, [], ◌∷◌, ℕ, zero, suc, ◌+◌, ◌*◌, ◌-◌, ◌%◌, ltb, leb, eqb, length, get_or}
use Rattle.counting.specs.Tests.{pick, all, any, among, below, none_twice, keep}
use Rattle.counting.specs.declared.Pair.{Pair}
use Rattle.skew.specs.declared.Arc.{Arc}

-- AN ARC: the node that it leaves, and the one that it leads to
abbrev pub arc : (tail head : ℕ) → Arc
arc v w = record { tail = v; head = w }

abbrev pub no_arc : Arc
no_arc = arc 0 0

abbrev pub arc_of : Pair → Arc
arc_of x = arc x.first x.second

unfoldable pub arcs_of : List Pair → List Arc
arcs_of [] = []
arcs_of (x ∷ xs) = arc_of x ∷ arcs_of xs

-- A GRAPH: mate pairs of nodes, the source, and arcs in file order
pub record Graph : Type 0 where
  pub pairs : ℕ
  pub source : ℕ
  pub arcs : List Arc

-- the lowest bit flipped
abbrev pub mate : ℕ → ℕ
mate v = pick (eqb (v % 2) 0) (v + 1) (v - 1)

abbrev pub nodes : Graph → ℕ
nodes g = 2 * g.pairs

abbrev pub arc_at : Graph → (arc : ℕ) → Arc
arc_at g i = get_or g.arcs i no_arc

-- from v to w: its mate goes from the mate of w to the mate of v
abbrev pub are_mates : Arc → Arc → Bool
are_mates x y = eqb y.tail (mate x.head) && eqb y.head (mate x.tail)

unfoldable pub mates_fit : List Arc → Bool
mates_fit [] = true
mates_fit (x ∷ []) = true
mates_fit (x ∷ y ∷ rest) = are_mates x y && mates_fit rest

abbrev pub has_two_ends : Arc → Bool
has_two_ends x = not (eqb x.tail x.head)

-- A REGULAR PATH as arc numbers: each starts where the one before ended; no node twice, no arc with its mate
unfoldable pub nodes_along : Graph → (from : ℕ) → (arcs : List ℕ) → List ℕ
nodes_along g v [] = v ∷ []
nodes_along g v (i ∷ is) = v ∷ nodes_along g (arc_at g i).head is

unfoldable pub is_joined : Graph → (from : ℕ) → (arcs : List ℕ) → Bool
is_joined g v [] = true
is_joined g v (i ∷ is) = ltb i (length g.arcs) && eqb (arc_at g i).tail v && is_joined g (arc_at g i).head is

unfoldable pub no_mates : (arcs : List ℕ) → Bool
no_mates [] = true
no_mates (i ∷ is) = not (among (mate i) is) && no_mates is

unfoldable pub end_of : Graph → (from : ℕ) → (arcs : List ℕ) → ℕ
end_of g v [] = v
end_of g v (i ∷ is) = end_of g (arc_at g i).head is

abbrev pub is_regular : Graph → (arcs : List ℕ) → Bool
is_regular g is = is_joined g g.source is && none_twice (nodes_along g g.source is) && no_mates is

abbrev pub is_wanted : Graph → (arcs : List ℕ) → Bool
is_wanted g is = is_regular g is && eqb (end_of g g.source is) (mate g.source)

-- REACHABLE: a regular path from the source ends there; tried step by step. Fuel: the nodes
unfoldable pub reaches_from : ℕ → Graph → (at to : ℕ) → (seen used : List ℕ) → Bool
reaches_from zero g v w ss us = eqb v w
reaches_from (suc n) g v w ss us =
    eqb v w ||
    any
    (λ (i : ℕ).
    eqb (arc_at g i).tail v && not (among (arc_at g i).head ss) && not (among (mate i) us) &&
    reaches_from n g (arc_at g i).head w ((arc_at g i).head ∷ ss) (i ∷ us))
    (below (length g.arcs))

abbrev pub is_reachable : Graph → (node : ℕ) → Bool
is_reachable g w = reaches_from (nodes g) g g.source w (g.source ∷ []) []

abbrev pub has_path : Graph → Bool
has_path g = is_reachable g (mate g.source)

-- A BARRIER by classes: 0 M, 1 A, 2 A', 3 X1 and so on
abbrev pub class_at : (classes : List ℕ) → (node : ℕ) → ℕ
class_at cs v = get_or cs v 0

abbrev pub isX : (class : ℕ) → Bool
isX c = leb 3 c

unfoldable pub largest_of : List ℕ → ℕ
largest_of [] = 0
largest_of (x ∷ xs) = pick (ltb (largest_of xs) x) x (largest_of xs)

-- A' is the mates of A; each Xi, and so M, closed under mates
abbrev pub mate_class : (class : ℕ) → ℕ
mate_class c = pick (eqb c 1) 2 (pick (eqb c 2) 1 c)

abbrev pub mates_agree : (classes : List ℕ) → (node : ℕ) → Bool
mates_agree cs v = eqb (class_at cs (mate v)) (mate_class (class_at cs v))

unfoldable pub entries_into : (classes : List ℕ) → (class : ℕ) → List Arc → ℕ
entries_into cs c [] = 0
entries_into cs c (x ∷ xs) =
    pick (eqb (class_at cs x.tail) 1 && eqb (class_at cs x.head) c) 1 0 + entries_into cs c xs

-- no arc between two different Xi, between an Xi and M, or from A into A' or M
abbrev pub isXM : (class : ℕ) → Bool
isXM c = isX c || eqb c 0

abbrev pub arc_fits : (classes : List ℕ) → Arc → Bool
arc_fits cs x =
    not
    (isXM (class_at cs x.tail) && isXM (class_at cs x.head) && not (eqb (class_at cs x.tail) (class_at cs x.head))) &&
    not (eqb (class_at cs x.tail) 1 && (eqb (class_at cs x.head) 2 || eqb (class_at cs x.head) 0))

abbrev pub is_barrier : Graph → (classes : List ℕ) → Bool
is_barrier g cs =
    eqb (length cs) (nodes g) && eqb (class_at cs g.source) 1 && all (mates_agree cs) (below (nodes g)) && all (arc_fits cs) g.arcs &&
    all (λ (c : ℕ). ltb c 3 || eqb (entries_into cs c g.arcs) 1) (below (suc (largest_of cs)))

-- THE CANONICAL BARRIER: Z and its mates; connected parts of X, numbered by their least node
abbrev pub inX : Graph → (node : ℕ) → Bool
inX g v = is_reachable g v && is_reachable g (mate v)

abbrev pub joins_in : Graph → (one other : ℕ) → Bool
joins_in g v w = any (λ (x : Arc). (eqb x.tail v && eqb x.head w) || (eqb x.tail w && eqb x.head v)) g.arcs

unfoldable pub part_once : Graph → (members : List ℕ) → (reached : List ℕ) → List ℕ
part_once g [] vs = vs
part_once g (m ∷ ms) vs = pick (not (among m vs) && any (joins_in g m) vs) (part_once g ms (m ∷ vs)) (part_once g ms vs)

unfoldable pub part_by : ℕ → Graph → (members reached : List ℕ) → List ℕ
part_by zero g ms vs = vs
part_by (suc n) g ms vs = part_by n g ms (part_once g ms vs)

abbrev pub x_nodes : Graph → List ℕ
x_nodes g = keep (inX g) (below (nodes g))

abbrev pub part_of : Graph → (node : ℕ) → List ℕ
part_of g v = part_by (length (x_nodes g)) g (x_nodes g) (v ∷ [])

unfoldable pub least_of : (least : ℕ) → List ℕ → ℕ
least_of a [] = a
least_of a (x ∷ xs) = least_of (pick (ltb x a) x a) xs

abbrev pub is_first : Graph → (node : ℕ) → Bool
is_first g v = eqb (least_of v (part_of g v)) v

-- parts that begin before a node's part
abbrev pub part_number : Graph → (node : ℕ) → ℕ
part_number g v = length (keep (λ (w : ℕ). ltb w (least_of v (part_of g v)) && is_first g w) (x_nodes g))

abbrev pub class_of : Graph → (node : ℕ) → ℕ
class_of g v =
    pick (inX g v) (3 + part_number g v) (pick (is_reachable g v) 1 (pick (is_reachable g (mate v)) 2 0))

unfoldable pub classes_from : Graph → (ordered : List ℕ) → List ℕ
classes_from g [] = []
classes_from g (v ∷ vs) = class_of g v ∷ classes_from g vs

abbrev pub canonical : Graph → List ℕ
canonical g = classes_from g (below (nodes g))
