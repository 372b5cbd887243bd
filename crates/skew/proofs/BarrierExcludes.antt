-- A path and a barrier exclude each other (document 000, theorem 2.2, the first half).
--   barrier_no_path       a barrier: no wanted path
--   barrier_excludes      the same of the tests
use mathlib.Core.Path.{◌≡◌, refl, sym, ap, subst, ◌∙◌}
use mathlib.Core.Logic.{◌⊎◌, inl, inr, ◌≢◌, ⊎_elim}
use mathlib.Core.Bool.{true, false}
use mathlib.Core.List.{List, ◌∷◌}
use Prim.Native.Nat.{ℕ, ◌<◌}
use native.Mathlib.Omega.{arith}
use lib.Dec.{eqb}
use lib.ListN.{length}
use borrow.Author.Tests.{eqb-true}
use Rattle.counting.specs.Lists.{In}
use Rattle.skew.specs.Graph.{Graph, mate, end_of, is_regular, is_wanted, class_at, is_barrier}
use Rattle.skew.specs.Paths.{tail, head, WellFormed}
use Rattle.skew.specs.Barrier.{Barrier, EntryArc}
use Rattle.counting.proofs.Booleans.{and_two, by_test, same_or}
use Rattle.skew.proofs.Mates.{mate_mate}
use Rattle.skew.proofs.Paths.{regular_path}
use Rattle.skew.proofs.RegularPaths.{along_path}
use Rattle.skew.proofs.Classes.{fit_from_A, fit_from_X, barrier, entries_same, exit_entry}

module _ (g : Graph) (wf : WellFormed g) (cs : List ℕ) (B : Barrier g cs) where
  abbrev class : ℕ → ℕ
  class v = class_at cs v

  -- a regular path stands in A, or in an Xi that it has entered by its one entry f, whose mate is not to come
  abbrev Stands : ℕ → List ℕ → Type 0
  Stands v p = (class v ≡ 1) ⊎ ((f : ℕ) × EntryArc g cs f (class v) × (In (mate f) p → ⊥))

  -- leaving the Xi for A' takes the mate of the entry
  leaves : (i f : ℕ) → i < length g.arcs → EntryArc g cs f (class (tail g i)) → class (head g i) ≡ 2 → mate f ≡ i
  leaves i f h E two =
      ap mate (entries_same g cs B f (mate i) (class (tail g i)) E (exit_entry g wf cs B i h E.is_X two)) ∙ mate_mate i

  move : (i : ℕ) (is : List ℕ) → i < length g.arcs → (In (mate i) is → ⊥) → Stands (tail g i) (i ∷ is) → Stands (head g i) is
  move i is h free (inl a) =
      let r = fit_from_A (class (tail g i)) (class (head g i)) (B.arc_fits_lem i h) a in
      let n2 = r.0 in
      let n0 = r.1 in
      ⊎_elim (λ e. inl e)
      (λ (e : class (head g i) ≢ 1). inr (i, record { is_arc = h; is_X = omega arith; from_A = a; into_X = refl }, free))
      (same_or (class (head g i)) 1)
  move i is h free (inr (f, E, used)) =
      ⊎_elim
      (λ same. inr (f, subst (λ (c : ℕ). EntryArc g cs f c) (sym same) E, λ m. used (inr m)))
      (⊎_elim (λ a. inl a) (λ two. absurd (used (inl (leaves i f h E two)))))
      (fit_from_X (class (tail g i)) (class (head g i)) (B.arc_fits_lem i h) E.is_X)

  pub barrier_no_path : (p : List ℕ) → is_wanted g p ≡ true → ⊥
  barrier_no_path p e =
      let s = g.source in
      let r = and_two (is_regular g p) (eqb (end_of g s p) (mate s)) e in
      let P = regular_path g p r.0 in
      let ends : class (end_of g s p) ≡ 2 = rw (eqb-true (end_of g s p) (mate s) r.1, B.mate_class_lem s wf.source_node, B.source_class) in
      ⊎_elim (λ k. omega arith) (λ k. omega (arith, k.1.is_X))
      (along_path g Stands move s (end_of g s p) p P.joins P.unmated (inl B.source_class))

pub barrier_excludes : (g : Graph) → WellFormed g → (is cs : List ℕ) → is_wanted g is ≡ true → is_barrier g cs ≡ false
barrier_excludes g wf is cs p = by_test (is_barrier g cs) (λ b. absurd (barrier_no_path g wf cs (barrier g cs b) is p)) (λ b. b)
