-- Paths as lists of arcs: the nodes along them, and the tests that say which are regular.
--   joined_joins, joins_joined            is_joined and end_of: the arcs lead from one node to the other
--   regular_path, path_regular            is_regular holds exactly of the regular paths from the source
--   nodes_cons, joins_end, arc_ends       the start, the end and both ends of each arc are nodes along the path
--   nodes_empty, length_nodes             one node more than arcs
--   nodes_within                          all of them below a bound that the start and all heads meet
--   joins_append, nodes_append            two paths with an arc between them
--   mate_arc                              the mate of an arc from v to w leads from the mate of w to the mate of v
--   joins_reverse, nodes_reverse          the mates of a path's arcs, the last first, lead from mate to mate
--   tail_node                             tails are nodes of the graph as heads are
use mathlib.Core.Path.{◌≡◌, refl, sym, ap, subst, ◌∙◌}
use mathlib.Core.Logic.{inl, inr, ⊎_elim}
use mathlib.Core.Bool.{true, ◌&&◌}
use mathlib.Core.List.{List, [], ◌∷◌, ◌++◌}
use Prim.Native.Nat.{ℕ, suc, ◌<◌}
use native.Mathlib.Omega.{arith}
use lib.Dec.{ltb, eqb}
use lib.ListN.{length}
use borrow.Author.Tests.{eqb-true, eq-eqb, ltb-true, lt-ltb}
use Rattle.counting.specs.Tests.{none_twice}
use Rattle.counting.specs.Lists.{In, Within, reverse_map}
use Rattle.skew.specs.Graph.{Graph, mate, nodes, nodes_along, is_joined, no_mates, end_of, is_regular}
use Rattle.skew.specs.Paths.{tail, head, Joins, RegularPath, SkewSymmetric, WellFormed}
use Rattle.counting.proofs.Booleans.{and_left, and_right, and_both}
use Rattle.counting.proofs.NoRepeats.{none_twice_distinct, distinct_none_twice}
use Rattle.skew.proofs.Mates.{mate_mate, mate_below, arcs_mates}
use Rattle.skew.proofs.Unmated.{no_mates_unmated, unmated_no_mates}

-- THE TEST is_regular
pub joined_joins : (g : Graph) (a : ℕ) (p : List ℕ) → is_joined g a p ≡ true → Joins g a (end_of g a p) p
unfolding is_joined end_of
joined_joins g a [] e = refl
joined_joins g a (i ∷ is) e =
    let h = and_left (ltb i (length g.arcs) && eqb (tail g i) a) (is_joined g (head g i) is) e in (
      ltb-true _ _ (and_left _ (eqb (tail g i) a) h),
      eqb-true _ _ (and_right (ltb i (length g.arcs)) _ h),
      joined_joins g (head g i) is (and_right (ltb i (length g.arcs) && eqb (tail g i) a) _ e),
    )

pub joins_joined : (g : Graph) (a v : ℕ) (p : List ℕ) → Joins g a v p → (is_joined g a p ≡ true) × (end_of g a p ≡ v)
unfolding is_joined end_of
joins_joined g a v [] j = (refl, j)
joins_joined g a v (i ∷ is) j =
    let r = joins_joined g (head g i) v is j.2 in
    (and_both _ _ (and_both _ _ (lt-ltb _ _ j.0) (eq-eqb _ _ j.1)) r.0, r.1)

pub regular_path : (g : Graph) (p : List ℕ) → is_regular g p ≡ true → RegularPath g (λ (x : ℕ). Unit {0}) g.source (end_of g g.source p) p
regular_path g p e =
    let h = and_left (is_joined g g.source p && none_twice (nodes_along g g.source p)) (no_mates p) e in
    record {
      joins = joined_joins g g.source p (and_left _ (none_twice (nodes_along g g.source p)) h);
      within = λ x m. tt;
      once = none_twice_distinct (nodes_along g g.source p) (and_right (is_joined g g.source p) _ h);
      unmated = no_mates_unmated p (and_right (is_joined g g.source p && none_twice (nodes_along g g.source p)) _ e);
    }

pub path_regular : (g : Graph) (S : ℕ → Type 0) (v : ℕ) (p : List ℕ) → RegularPath g S g.source v p →
    (is_regular g p ≡ true) × (end_of g g.source p ≡ v)
path_regular g S v p P =
    let r = joins_joined g g.source v p P.joins in
    (and_both _ _ (and_both _ _ r.0 (distinct_none_twice _ P.once)) (unmated_no_mates p P.unmated), r.1)

-- NODES ALONG A PATH
pub nodes_cons : (g : Graph) (a : ℕ) (p : List ℕ) → In a (nodes_along g a p)
unfolding nodes_along
nodes_cons g a [] = inl refl
nodes_cons g a (i ∷ is) = inl refl

pub joins_end : (g : Graph) (a v : ℕ) (p : List ℕ) → Joins g a v p → In v (nodes_along g a p)
unfolding nodes_along
joins_end g a v [] j = inl (sym j)
joins_end g a v (i ∷ is) j = inr (joins_end g (head g i) v is j.2)

pub arc_ends : (g : Graph) (a v : ℕ) (p : List ℕ) → Joins g a v p → (i : ℕ) → In i p →
    (i < length g.arcs) × In (tail g i) (nodes_along g a p) × In (head g i) (nodes_along g a p)
unfolding nodes_along
arc_ends g a v [] j i m = absurd m
arc_ends g a v (k ∷ ks) j i (inl e) =
    subst (λ (x : ℕ). (x < length g.arcs) × In (tail g x) (nodes_along g a (k ∷ ks)) × In (head g x) (nodes_along g a (k ∷ ks))) (sym e)
    (j.0, inl j.1, inr (nodes_cons g (head g k) ks))
arc_ends g a v (k ∷ ks) j i (inr m) =
    let r = arc_ends g (head g k) v ks j.2 i m in (r.0, inr r.1, inr r.2)

pub nodes_empty : (g : Graph) (a x : ℕ) → In x (nodes_along g a []) → x ≡ a
unfolding nodes_along
nodes_empty g a x m = ⊎_elim (λ q. q) (λ q. absurd q) m

pub nodes_within : (g : Graph) (n a v : ℕ) (p : List ℕ) → ((i : ℕ) → i < length g.arcs → head g i < n) → a < n → Joins g a v p →
    Within (λ (x : ℕ). x < n) (nodes_along g a p)
unfolding nodes_along
nodes_within g n a v [] h l j x = ⊎_elim (λ e. omega arith) (λ b. absurd b)
nodes_within g n a v (i ∷ is) h l j x = ⊎_elim (λ e. omega arith) (nodes_within g n (head g i) v is h (h i j.0) j.2 x)

pub length_nodes : (g : Graph) (a : ℕ) (p : List ℕ) → length (nodes_along g a p) ≡ suc (length p)
unfolding nodes_along
length_nodes g a [] = refl
length_nodes g a (i ∷ is) = ap suc (length_nodes g (head g i) is)

-- TWO PATHS WITH AN ARC BETWEEN THEM
pub joins_append : (g : Graph) (a u v : ℕ) (p : List ℕ) (t : ℕ) (q : List ℕ) →
    Joins g a u p → t < length g.arcs → tail g t ≡ u → Joins g (head g t) v q → Joins g a v (p ++ t ∷ q)
joins_append g a u v [] t q j h e k = (h, e ∙ sym j, k)
joins_append g a u v (i ∷ is) t q j h e k = (j.0, j.1, joins_append g (head g i) u v is t q j.2 h e k)

pub nodes_append : (g : Graph) (a : ℕ) (p : List ℕ) (t : ℕ) (q : List ℕ) →
    nodes_along g a (p ++ t ∷ q) ≡ nodes_along g a p ++ nodes_along g (head g t) q
unfolding nodes_along
nodes_append g a [] t q = refl
nodes_append g a (i ∷ is) t q = rw (nodes_append g (head g i) is t q)

-- MATES
module _ (g : Graph) (d : SkewSymmetric g) where
  pub mate_arc : (i : ℕ) → i < length g.arcs →
      (mate i < length g.arcs) × (tail g (mate i) ≡ mate (head g i)) × (head g (mate i) ≡ mate (tail g i))
  mate_arc i h =
      let r = arcs_mates g.arcs d.mates_fit_lem d.even i h in
      (mate_below i (length g.arcs) d.even h, r.tail, r.head)

  pub joins_reverse : (a v : ℕ) (p : List ℕ) → Joins g a v p → Joins g (mate v) (mate a) (reverse_map mate p)
  joins_reverse a v [] j = ap mate (sym j)
  joins_reverse a v (i ∷ is) j =
      let r = mate_arc i j.0 in
      joins_append g (mate v) (mate (head g i)) (mate a) (reverse_map mate is) (mate i) [] (joins_reverse (head g i) v is j.2) r.0 r.1
      (r.2 ∙ ap mate j.1)

  pub nodes_reverse : (a v : ℕ) (p : List ℕ) → Joins g a v p → nodes_along g (mate v) (reverse_map mate p) ≡ reverse_map mate (nodes_along g a p)
  unfolding nodes_along
  nodes_reverse a v [] j = rw j
  nodes_reverse a v (i ∷ is) j =
      rw (nodes_append g (mate v) (reverse_map mate is) (mate i) [], nodes_reverse (head g i) v is j.2, (mate_arc i j.0).2, j.1)

pub tail_node : (g : Graph) → WellFormed g → (i : ℕ) → i < length g.arcs → tail g i < nodes g
tail_node g wf i h =
    let r = mate_arc g wf.symmetric i h in
    let low : mate (tail g i) < nodes g = rw r.2 at (wf.head_node (mate i) r.0) in
    subst (λ (z : ℕ). z < nodes g) (mate_mate (tail g i)) (mate_below (mate (tail g i)) (nodes g) (omega arith) low)
