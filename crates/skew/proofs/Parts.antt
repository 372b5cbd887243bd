-- Connected parts as `part_by` finds them, round by round.
--   adjacent_head, adjacent_tail, adjacent_elim      adjacent nodes are the ends of an arc
--   part_all                                         what a node passes to its neighbours among the members holds in its part
--   part_closed                                      as many rounds as members: no neighbour is left out
--   part_has                                         a part holds its node
--   least_in, least_le                               least_of is an element, and the least
use mathlib.Core.Path.{◌≡◌, refl, subst}
use mathlib.Core.Logic.{◌⊎◌, inl, inr, ⊎_elim}
use mathlib.Core.Bool.{Bool, true, false, ◌&&◌, ◌||◌, not}
use mathlib.Core.List.{List, [], ◌∷◌}
use Prim.Native.Nat.{ℕ, zero, suc, ◌+◌, ◌≤◌, ◌<◌}
use native.Mathlib.Omega.{arith}
use lib.Dec.{ltb, eqb}
use lib.ListN.{length}
use borrow.Author.Tests.{eqb-true, eq-eqb, ltb-true, ltb-false}
use Rattle.counting.specs.Tests.{any, among}
use Rattle.counting.specs.Lists.{In, Within, Distinct}
use Rattle.skew.specs.Graph.{no_arc, Graph, joins_in, part_once, part_by, least_of}
use Rattle.skew.specs.declared.Arc.{Arc}
use Rattle.skew.specs.Paths.{tail, head}
use Rattle.skew.specs.Parts.{Adjacent, PartClosed}
use Rattle.counting.proofs.Booleans.{and_two, or_right, or_cases, by_test, true_false}
use Rattle.counting.proofs.Membership.{any_some, some_any, any_get_d, get_d_any, among_in, not_among_out}
use Rattle.counting.proofs.Pigeonhole.{distinct_within}

module _ (g : Graph) where
  -- ADJACENT NODES
  pub adjacent_head : (i : ℕ) → i < length g.arcs → Adjacent g (head g i) (tail g i)
  unfolding Adjacent
  adjacent_head i h = (i, h, inr (refl, refl))

  pub adjacent_tail : (i : ℕ) → i < length g.arcs → Adjacent g (tail g i) (head g i)
  unfolding Adjacent
  adjacent_tail i h = (i, h, inl (refl, refl))

  pub adjacent_elim : (Q : ℕ → ℕ → Type 0) → ((i : ℕ) → i < length g.arcs → Q (tail g i) (head g i)) →
      ((i : ℕ) → i < length g.arcs → Q (head g i) (tail g i)) → (v w : ℕ) → Adjacent g v w → Q v w
  unfolding Adjacent
  adjacent_elim Q there back v w (i, h, inl e) =
      subst (λ (z : ℕ). Q v z) e.1 (subst (λ (z : ℕ). Q z (head g i)) e.0 (there i h))
  adjacent_elim Q there back v w (i, h, inr e) =
      subst (λ (z : ℕ). Q v z) e.0 (subst (λ (z : ℕ). Q z (tail g i)) e.1 (back i h))

  abbrev is_between : (v w : ℕ) → Arc → Bool
  is_between v w x = (eqb x.tail v && eqb x.head w) || (eqb x.tail w && eqb x.head v)

  joins_adjacent : (v w : ℕ) → joins_in g v w ≡ true → Adjacent g v w
  unfolding Adjacent
  joins_adjacent v w e =
      let r = any_get_d (is_between v w) g.arcs no_arc e in
      let i = r.0 in (
        i,
        r.1,
        ⊎_elim (λ a. let s = and_two (eqb (tail g i) v) (eqb (head g i) w) a in inl (eqb-true _ _ s.0, eqb-true _ _ s.1))
            (λ a. let s = and_two (eqb (tail g i) w) (eqb (head g i) v) a in inr (eqb-true _ _ s.0, eqb-true _ _ s.1))
            (or_cases (eqb (tail g i) v && eqb (head g i) w) (eqb (tail g i) w && eqb (head g i) v) r.2),
      )

  adjacent_joins : (v w : ℕ) → Adjacent g v w → joins_in g v w ≡ true
  unfolding Adjacent
  adjacent_joins v w (i, h, t) =
      get_d_any (is_between v w) g.arcs no_arc i h
      (⊎_elim (λ e. rw (eq-eqb (tail g i) v e.0, eq-eqb (head g i) w e.1))
      (λ e.
      or_right (eqb (tail g i) v && eqb (head g i) w) _ (rw (eq-eqb (tail g i) w e.0, eq-eqb (head g i) v e.1)))
      t)

  -- ONE ROUND
  abbrev adds : ℕ → List ℕ → Bool
  adds m vs = not (among m vs) && any (joins_in g m) vs

  adds_new : (m : ℕ) (vs : List ℕ) → adds m vs ≡ true → In m vs → ⊥
  adds_new m vs t = not_among_out m vs (and_two (not (among m vs)) (any (joins_in g m) vs) t).0

  adds_adjacent : (m : ℕ) (vs : List ℕ) → adds m vs ≡ true → (u : ℕ) × In u vs × Adjacent g m u
  adds_adjacent m vs t =
      let r = any_some (joins_in g m) vs (and_two (not (among m vs)) (any (joins_in g m) vs) t).1 in
      (r.0, r.1, joins_adjacent m r.0 r.2)

  not_added : (m : ℕ) (vs : List ℕ) → adds m vs ≡ false → (u : ℕ) → In u vs → Adjacent g m u → In m vs
  not_added m vs t u n o =
      by_test (among m vs) (λ a. among_in m vs a)
      (λ a. let k : adds m vs ≡ true = rw (a, some_any (joins_in g m) u vs n (adjacent_joins m u o)) in true_false k t)

  once_has : (ms vs : List ℕ) (x : ℕ) → In x vs → In x (part_once g ms vs)
  unfolding part_once
  once_has [] vs x k = k
  once_has (m ∷ ms) vs x k = by_test (adds m vs) (λ t. rw t (once_has ms (m ∷ vs) x (inr k))) (λ t. rw t (once_has ms vs x k))

  once_all : (Q : ℕ → Type 0) (ms vs : List ℕ) → ((m u : ℕ) → In m ms → Q u → Adjacent g m u → Q m) → Within Q vs → Within Q (part_once g ms vs)
  unfolding part_once
  once_all Q [] vs h w = w
  once_all Q (m ∷ ms) vs h w =
      by_test (adds m vs) (λ t. rw t (once_all Q ms (m ∷ vs) later (λ x. ⊎_elim (λ e. rw e (new t)) (w x))))
      (λ t. rw t (once_all Q ms vs later w))
    where
      later : (k u : ℕ) → In k ms → Q u → Adjacent g k u → Q k
      later k u j = h k u (inr j)

      new : adds m vs ≡ true → Q m
      new t = let r = adds_adjacent m vs t in h m r.0 (inl refl) (w r.0 r.1) r.2

  once_distinct : (ms vs : List ℕ) → Distinct vs → Distinct (part_once g ms vs)
  unfolding part_once
  once_distinct [] vs d = d
  once_distinct (m ∷ ms) vs d =
      by_test (adds m vs) (λ t. rw t (once_distinct ms (m ∷ vs) (adds_new m vs t, d))) (λ t. rw t (once_distinct ms vs d))

  once_grows : (ms vs : List ℕ) → length vs ≤ length (part_once g ms vs)
  unfolding part_once
  once_grows [] vs = omega arith
  once_grows (m ∷ ms) vs = by_test (adds m vs) (λ t. rw t (omega (arith, once_grows ms (m ∷ vs)))) (λ t. rw t (once_grows ms vs))

  -- nothing is left to add, or something was added
  once_cases : (ms vs : List ℕ) → (PartClosed g ms vs × (part_once g ms vs ≡ vs)) ⊎ (length vs < length (part_once g ms vs))
  unfolding part_once
  once_cases [] vs = inl ((λ m u k. absurd k), refl)
  once_cases (m ∷ ms) vs =
      by_test (adds m vs) (λ t. inr (rw t (omega (arith, once_grows ms (m ∷ vs)))))
      (λ t. rw t (⊎_elim (λ r. inl (closed t r.0, r.1)) (λ r. inr r) (once_cases ms vs)))
    where
      closed : adds m vs ≡ false → PartClosed g ms vs → PartClosed g (m ∷ ms) vs
      closed t r k u (inl e) n o = rw e (not_added m vs t u n (subst (λ (z : ℕ). Adjacent g z u) e o))
      closed t r k u (inr i) n o = r k u i n o

  -- ALL ROUNDS
  rounds_has : (n : ℕ) (ms vs : List ℕ) (x : ℕ) → In x vs → In x (part_by n g ms vs)
  unfolding part_by
  rounds_has zero ms vs x k = k
  rounds_has (suc n) ms vs x k = rounds_has n ms (part_once g ms vs) x (once_has ms vs x k)

  pub part_all : (Q : ℕ → Type 0) (n : ℕ) (ms vs : List ℕ) → ((m u : ℕ) → In m ms → Q u → Adjacent g m u → Q m) → Within Q vs →
      Within Q (part_by n g ms vs)
  unfolding part_by
  part_all Q zero ms vs h w = w
  part_all Q (suc n) ms vs h w = part_all Q n ms (part_once g ms vs) h (once_all Q ms vs h w)

  rounds_distinct : (n : ℕ) (ms vs : List ℕ) → Distinct vs → Distinct (part_by n g ms vs)
  unfolding part_by
  rounds_distinct zero ms vs d = d
  rounds_distinct (suc n) ms vs d = rounds_distinct n ms (part_once g ms vs) (once_distinct ms vs d)

  rounds_still : (n : ℕ) (ms vs : List ℕ) → part_once g ms vs ≡ vs → part_by n g ms vs ≡ vs
  unfolding part_by
  rounds_still zero ms vs e = refl
  rounds_still (suc n) ms vs e = rw e (rounds_still n ms vs e)

  rounds_cases : (n : ℕ) (ms vs : List ℕ) → PartClosed g ms (part_by n g ms vs) ⊎ (length vs + n ≤ length (part_by n g ms vs))
  unfolding part_by
  rounds_cases zero ms vs = inr (omega arith)
  rounds_cases (suc n) ms vs =
      ⊎_elim (λ r. inl (rw (r.1, rounds_still n ms vs r.1) r.0))
      (λ l. ⊎_elim (λ r. inl r) (λ k. inr (omega arith)) (rounds_cases n ms (part_once g ms vs))) (once_cases ms vs)

  pub part_closed : (ms : List ℕ) (v : ℕ) → In v ms → PartClosed g ms (part_by (length ms) g ms (v ∷ []))
  part_closed ms v k =
      ⊎_elim (λ r. r)
      (λ l.
      absurd
      (omega (
        arith,
        l,
        distinct_within (part_by (length ms) g ms (v ∷ [])) ms (rounds_distinct (length ms) ms (v ∷ []) (λ m. m, tt))
            (part_all (λ (x : ℕ). In x ms) (length ms) ms (v ∷ []) (λ m u j q t. j) (λ x. ⊎_elim (λ e. rw e k) (λ b. absurd b))),
      )))
      (rounds_cases (length ms) ms (v ∷ []))

  pub part_has : (ms : List ℕ) (v : ℕ) → In v (part_by (length ms) g ms (v ∷ []))
  part_has ms v = rounds_has (length ms) ms (v ∷ []) v (inl refl)

-- THE LEAST ELEMENT
pub least_in : (a : ℕ) (xs : List ℕ) → In (least_of a xs) (a ∷ xs)
unfolding least_of
least_in a [] = inl refl
least_in a (x ∷ xs) =
    by_test (ltb x a)
    (λ t. let e : least_of x xs ≡ least_of a (x ∷ xs) = rw t in subst (λ (y : ℕ). In y (a ∷ x ∷ xs)) e (inr (least_in x xs)))
    (λ t.
    let e : least_of a xs ≡ least_of a (x ∷ xs) = rw t in
    subst (λ (y : ℕ). In y (a ∷ x ∷ xs)) e (⊎_elim (λ e. inl e) (λ m. inr (inr m)) (least_in a xs)))

pub least_le : (a : ℕ) (xs : List ℕ) (x : ℕ) → In x (a ∷ xs) → least_of a xs ≤ x
unfolding least_of
least_le a [] x m = ⊎_elim (λ e. omega arith) (λ b. absurd b) m
least_le a (y ∷ ys) x m =
    by_test (ltb y a)
    (λ t. let l = ltb-true y a t in rw t (⊎_elim (λ e. omega (arith, least_le y ys y (inl refl))) (least_le y ys x) m))
    (λ t.
    let l = ltb-false y a t in
    rw t
    (⊎_elim (λ e. least_le a ys x (inl e))
    (⊎_elim (λ e. omega (arith, least_le a ys a (inl refl))) (λ k. least_le a ys x (inr k))) m))
