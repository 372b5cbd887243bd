-- Only one arc of the doubled table, by number, leads into a node 2k: from the source if k is unlit, else from its partner.
--   None f xs, AtMostOne f xs                     none of the arcs passes a test; at most one, by number, does
--   none_at, one_at, none_one                     the same by index; where none does, at most one does
--   enters x                                      the arc leads into 2k
--   Writes j                                      such an arc is written in the turn of camera j, the smaller of k and its partner
--   writes_one                                    in one turn only
--   writes_unlit, writes_partner, writes_self     by the arcs of a turn
--   fit_none                                      none among the arcs of fits
--   camera_none, camera_one                       none in turns of other cameras; one at most in all turns
--   one_arc_in                                    so two arcs into 2k are the same
use mathlib.Core.Path.{◌≡◌, refl, sym, ap, subst, ◌∙◌}
use mathlib.Core.Logic.{◌⊎◌, inl, inr}
use mathlib.Core.Bool.{Bool, true, false}
use mathlib.Core.List.{List, [], ◌∷◌}
use Prim.Native.Nat.{ℕ, zero, suc, ◌+◌, ◌*◌, ◌≤◌, ◌<◌}
use native.Mathlib.Omega.{arith}
use lib.Dec.{eqb}
use lib.ListN.{length, get_or}
use borrow.Author.Tests.{eqb-true, eq-eqb, ne_eqb}
use Rattle.counting.specs.Tests.{below}
use Rattle.counting.specs.Lists.{In, Distinct}
use Rattle.counting.specs.declared.Pair.{Pair}
use Rattle.counting.proofs.Booleans.{by_test, true_false}
use Rattle.counting.proofs.Range.{distinct_up}
use Rattle.skew.specs.Graph.{no_arc, Graph}
use Rattle.skew.specs.declared.Arc.{Arc}
use Rattle.skew.specs.Paths.{head}
use Rattle.matching.specs.Matching.{Matching}
use Rattle.matching.specs.DoubledTable.{camera_arcs, fit_arcs, doubled_table}
use Rattle.matching.proofs.DoubledTable.{by_camera}

abbrev None : (Arc → Bool) → List Arc → Type 0
None f [] = Unit {0}
None f (x ∷ xs) = (f x ≡ false) × None f xs

abbrev AtMostOne : (Arc → Bool) → List Arc → Type 0
AtMostOne f [] = Unit {0}
AtMostOne f (x ∷ xs) = (f x ≡ true → None f xs) × AtMostOne f xs

none_at : (f : Arc → Bool) (xs : List Arc) → None f xs → (i : ℕ) → i < length xs → f (get_or xs i no_arc) ≡ true → ⊥
none_at f [] o i h e = omega arith
none_at f (x ∷ xs) o zero h e = true_false e o.0
none_at f (x ∷ xs) o (suc i) h e = none_at f xs o.1 i (omega arith) e

one_at : (f : Arc → Bool) (xs : List Arc) → AtMostOne f xs → (i j : ℕ) → i < length xs → j < length xs →
    f (get_or xs i no_arc) ≡ true → f (get_or xs j no_arc) ≡ true → i ≡ j
one_at f [] o i j h k d e = absurd (omega arith)
one_at f (x ∷ xs) o zero zero h k d e = refl
one_at f (x ∷ xs) o zero (suc j) h k d e = absurd (none_at f xs (o.0 d) j (omega arith) e)
one_at f (x ∷ xs) o (suc i) zero h k d e = absurd (none_at f xs (o.0 e) i (omega arith) d)
one_at f (x ∷ xs) o (suc i) (suc j) h k d e = ap suc (one_at f xs o.1 i j (omega arith) (omega arith) d e)

none_one : (f : Arc → Bool) (xs : List Arc) → None f xs → AtMostOne f xs
none_one f [] o = tt
none_one f (x ∷ xs) o = (λ e. o.1, none_one f xs o.1)

module _ (n : ℕ) (fs : List Pair) (p : ℕ → ℕ) (M : Matching fs p) (k : ℕ) where
  abbrev g : Graph
  g = doubled_table n fs p

  abbrev enters : Arc → Bool
  enters x = eqb x.head (2 * k)

  -- the camera in whose turn the arc is written: the smaller of k and its partner
  abbrev Writes : ℕ → Type 0
  Writes j = ((j ≡ k) × (k ≤ p k)) ⊎ ((j ≡ p k) × (p k < k))

  writes_one : (i j : ℕ) → Writes i → Writes j → i ≡ j
  writes_one i j (inl a) (inl b) = a.0 ∙ sym b.0
  writes_one i j (inl a) (inr b) = absurd (omega (arith, a.1, b.1))
  writes_one i j (inr a) (inl b) = absurd (omega (arith, a.1, b.1))
  writes_one i j (inr a) (inr b) = a.0 ∙ sym b.0

  -- heads of the two arcs of a camera's turn
  writes_unlit : (j : ℕ) → p j ≡ j → 2 * j ≡ 2 * k → Writes j
  writes_unlit j q e = let i : j ≡ k = omega arith in let r : p j ≡ p k = ap p i in inl (i, omega arith)

  writes_partner : (j : ℕ) → j < p j → 2 * p j ≡ 2 * k → Writes j
  writes_partner j q e = let i : p j ≡ k = omega arith in let r : j ≡ p k = sym (M.back j) ∙ ap p i in inr (r, omega arith)

  writes_self : (j : ℕ) → j < p j → 2 * j ≡ 2 * k → Writes j
  writes_self j q e = let i : j ≡ k = omega arith in let r : p j ≡ p k = ap p i in inl (i, omega arith)

  fit_none : (xs : List Pair) → None enters (fit_arcs p xs)
  unfolding fit_arcs
  fit_none [] = tt
  fit_none (x ∷ xs) =
      by_test (eqb (p x.first) x.second) (λ t. rw t (fit_none xs))
      (λ t. rw t (ne_eqb (2 * x.second + 1) (2 * k) (λ z. omega arith), (ne_eqb (2 * x.first + 1) (2 * k) (λ z. omega arith), fit_none xs)))

  camera_none : (ks : List ℕ) (rest : List Arc) → ((j : ℕ) → In j ks → Writes j → ⊥) → None enters rest → None enters (camera_arcs n p ks rest)
  unfolding camera_arcs
  camera_none [] rest h o = o
  camera_none (j ∷ ks) rest h o =
      let ih = camera_none ks rest (λ i m. h i (inr m)) o in
      let out = h j (inl refl) in
      by_camera p j
      (λ q t. rw t (ne_eqb (2 * j) (2 * k) (λ z. out (writes_unlit j q z)), (ne_eqb (2 * n + 1) (2 * k) (λ z. omega arith), ih)))
      (λ q t s.
      rw (t, s) (ne_eqb (2 * p j) (2 * k) (λ z. out (writes_partner j q z)), (ne_eqb (2 * j) (2 * k) (λ z. out (writes_self j q z)), ih)))
      (λ q t s. rw (t, s) ih)

  camera_one : (ks : List ℕ) (rest : List Arc) → Distinct ks → None enters rest → AtMostOne enters (camera_arcs n p ks rest)
  unfolding camera_arcs
  camera_one [] rest d o = none_one enters rest o
  camera_one (j ∷ ks) rest d o =
      let ih = camera_one ks rest d.1 o in
      let others : Writes j → None enters (camera_arcs n p ks rest) =
      λ z. camera_none ks rest (λ i m y. d.0 (subst (λ (w : ℕ). In w ks) (writes_one i j y z) m)) o in
      by_camera p j
      (λ q t. rw t (
        λ z. (ne_eqb (2 * n + 1) (2 * k) (λ y. omega arith), others (writes_unlit j q (eqb-true (2 * j) (2 * k) z))),
        (λ z. absurd (let y = eqb-true (2 * n + 1) (2 * k) z in omega arith), ih),
      ))
      (λ q t s. rw (t, s) (
        λ z. let y = eqb-true (2 * p j) (2 * k) z in (ne_eqb (2 * j) (2 * k) (λ x. omega arith), others (writes_partner j q y)),
        (λ z. others (writes_self j q (eqb-true (2 * j) (2 * k) z)), ih),
      ))
      (λ q t s. rw (t, s) ih)

  pub one_arc_in : (i j : ℕ) → i < length g.arcs → j < length g.arcs → head g i ≡ 2 * k → head g j ≡ 2 * k → i ≡ j
  one_arc_in i j h l a b =
      one_at enters g.arcs (camera_one (below n) (fit_arcs p fs) (distinct_up 0 n) (fit_none fs)) i j h l (eq-eqb _ _ a) (eq-eqb _ _ b)
