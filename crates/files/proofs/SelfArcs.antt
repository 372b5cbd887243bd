-- Graph files where an arc may lead from a node to itself (document 02, L5).
--   two_ends, no_self_arc     there is none: by the test of question 16, and back
--   self_arc_fault_some       the number of a file with such an arc is never 0
--   others_as_before          a file without such an arc
--   self_arcs_refused         a file with one
--   accepted_is               which files are accepted
--   sixteen_is                which are refused with 16
use mathlib.Core.Path.{◌≡◌, refl, ap, sym, ◌∙◌}
use mathlib.Core.Logic.{◌≢◌, ◌⊎◌, inl, inr, ⊎_elim}
use mathlib.Core.Bool.{true, false, ◌||◌, not}
use mathlib.Core.List.{List}
use Prim.Native.Nat.{ℕ}
use lib.Dec.{eqb}
use borrow.Author.Tests.{eq-eqb, eqb-true, eqb-false, not-true, not-false}
use Rattle.counting.specs.Tests.{all}
use Rattle.counting.proofs.Booleans.{or_false_left, by_test, true_false}
use Rattle.counting.proofs.Membership.{all_get_d, get_d_all, get_d_fails}
use Rattle.frames.specs.Questions.{first_no}
use Rattle.frames.proofs.Questions.{first_stop, first_go, refusal_is}
use Rattle.skew.specs.Graph.{no_arc, Graph, nodes, mates_fit, has_two_ends}
use Rattle.skew.specs.Paths.{tail, head}
use Rattle.files.specs.GraphFile.{graph_in, graph_fault, basic_graph_fault, ends_named, graph_sized, arcs_questions, graph_questions, basic_arcs_questions, basic_questions}
use Rattle.files.specs.SelfArcs.{SelfArc, self_arc_fault, OthersAsBefore, SelfArcsRefused, AcceptedIs, SixteenIs}
use Rattle.files.proofs.Asked.{graph_asked, basic_asked}

-- BY THE TEST
module _ (g : Graph) where
  pub two_ends : (SelfArc g → ⊥) → all has_two_ends g.arcs ≡ true
  two_ends h =
      get_d_all has_two_ends g.arcs no_arc (λ i l. by_test (eqb (tail g i) (head g i)) (λ t. absurd (h (i, l, eqb-true _ _ t))) (λ t. rw t))

  self_arc : all has_two_ends g.arcs ≡ false → SelfArc g
  self_arc e = let r = get_d_fails has_two_ends g.arcs no_arc e in (r.0, r.1, eqb-true _ _ (not-false _ r.2))

  pub no_self_arc : all has_two_ends g.arcs ≡ true → SelfArc g → ⊥
  no_self_arc e (i, l, same) = true_false (eq-eqb _ _ same) (not-true _ (all_get_d has_two_ends g.arcs no_arc i e l))

  one_end : SelfArc g → all has_two_ends g.arcs ≡ false
  one_end s = by_test (all has_two_ends g.arcs) (λ t. absurd (no_self_arc t s)) (λ t. t)

-- THE REFUSALS
pub self_arc_fault_some : (n : ℕ) → eqb (self_arc_fault n) 0 ≡ false
self_arc_fault_some n = by_test (eqb n 0 || eqb n 10) (λ t. rw t) (λ t. rw t (or_false_left _ _ t))

pub others_as_before : OthersAsBefore
others_as_before f h = rw (two_ends (graph_in f) h)

pub self_arcs_refused : SelfArcsRefused
self_arcs_refused f s =
    let n = first_no (graph_sized f) in
    let some = one_end (graph_in f) s in
    let later = arcs_questions (nodes (graph_in f)) (graph_in f).arcs in
    let basic = basic_arcs_questions (nodes (graph_in f)) (graph_in f).arcs in
    let fault : (k : ℕ) → first_no (graph_questions f) ≡ self_arc_fault k → first_no (basic_questions f) ≡ k → graph_fault f ≡ self_arc_fault (basic_graph_fault f) =
    λ k x y. graph_asked f ∙ x ∙ sym (ap self_arc_fault (basic_asked f ∙ y)) in
    by_test (eqb n 0)
    (λ t.
    let z = eqb-true n 0 t in
    let one = first_go (graph_sized f) later refl z in
    let other = first_go (graph_sized f) basic refl z in
    by_test (all (ends_named (nodes (graph_in f))) (graph_in f).arcs)
    (λ a. by_test (mates_fit (graph_in f).arcs) (λ b. fault 0 (one ∙ rw (a, some)) (other ∙ rw (a, b))) (λ b. fault 10 (one ∙ rw (a, some)) (other ∙ rw (a, b))))
    (λ a. fault 9 (one ∙ rw a) (other ∙ rw a)))
    (λ t.
    let d = eqb-false n 0 t in
    let ten : eqb n 10 ≡ false = not-true _ (refusal_is (λ (k : ℕ). not (eqb k 10)) (graph_sized f) refl refl) in
    let same : n ≡ self_arc_fault n = rw (t, ten) in
    fault n (first_stop (graph_sized f) later d ∙ same) (first_stop (graph_sized f) basic d))

-- BOTH WAYS
module _ (f : List ℕ) where
  by_self_arc : {C : Type 0} → (SelfArc (graph_in f) → C) → ((SelfArc (graph_in f) → ⊥) → C) → C
  by_self_arc a b = by_test (all has_two_ends (graph_in f).arcs) (λ t. b (no_self_arc (graph_in f) t)) (λ t. a (self_arc (graph_in f) t))

pub accepted_is : AcceptedIs
accepted_is f = (
  λ e.
      by_self_arc f
      (λ s. true_false (eq-eqb _ _ (sym (self_arcs_refused f s) ∙ e)) (self_arc_fault_some (basic_graph_fault f)))
      (λ none. (sym (others_as_before f none) ∙ e, none)),
  λ p. others_as_before f p.1 ∙ p.0,
)

not_sixteen : (f : List ℕ) → basic_graph_fault f ≢ 16
not_sixteen f e =
    let r : not (eqb (first_no (basic_questions f)) 16) ≡ true = refusal_is (λ (k : ℕ). not (eqb k 16)) (basic_questions f) refl refl in
    true_false (eq-eqb _ _ (sym (basic_asked f) ∙ e)) (not-true _ r)

none_or_ten : (n : ℕ) → n ≢ 16 → self_arc_fault n ≡ 16 → (n ≡ 0) ⊎ (n ≡ 10)
none_or_ten n d e =
    by_test (eqb n 0) (λ t. inl (eqb-true _ _ t)) (λ t. by_test (eqb n 10) (λ u. inr (eqb-true _ _ u)) (λ u. absurd (d (rw (t, u) at e))))

pub sixteen_is : SixteenIs
sixteen_is f = (
  λ e.
      by_self_arc f
      (λ s. (s, none_or_ten (basic_graph_fault f) (not_sixteen f) (sym (self_arcs_refused f s) ∙ e)))
      (λ none. absurd (not_sixteen f (sym (others_as_before f none) ∙ e))),
  λ p. self_arcs_refused f p.0 ∙ ⊎_elim (λ z. ap self_arc_fault z) (λ z. ap self_arc_fault z) p.1,
)
