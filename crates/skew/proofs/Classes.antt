-- A barrier's classes as a list: what the tests of Graph say of them.
--   fit_from_A, fit_from_X                    where an arc out of A or out of an Xi may lead
--   fit_X_X, fit_X_A, fit_X_A', fit_A_X       arcs that fit
--   entry_counted, entry_unique, sole_entry   exactly one entry is counted where there is exactly one
--   class_largest, largest_is                 the largest class bounds every class and is some node's
--   barrier, barrier_test                     is_barrier holds exactly of barriers
--   X_mate_class                              an Xi is closed under mates
--   entry_test, test_entry, entries_same      entries by their test; two entries into an Xi are one
--   exit_entry                                an arc from an Xi to A' is the mate of its entry
--   canonical_class, canonical_length         the canonical classes as a list
--   node_class                                a node's canonical class
use mathlib.Core.Path.{◌≡◌, refl, sym, ap, subst, ◌∙◌}
use mathlib.Core.Logic.{◌⊎◌, inl, inr, ◌≢◌, ⊎_elim}
use mathlib.Core.Bool.{true, ◌||◌}
use mathlib.Core.List.{List, [], ◌∷◌}
use Prim.Native.Nat.{ℕ, zero, suc, ◌+◌, ◌≤◌, ◌<◌}
use native.Mathlib.Omega.{arith}
use lib.Dec.{ltb, leb, eqb}
use lib.ListN.{length, get_or}
use borrow.Author.Tests.{eqb-true, eqb-false, eq-eqb, ne_eqb, ltb-true, ltb-false, le-leb, leb-false}
use Rattle.counting.specs.Tests.{all, up_from, below}
use Rattle.skew.specs.Graph.{no_arc, Graph, mate, nodes, arc_at, is_reachable, class_at, largest_of, mate_class, mates_agree, entries_into, isXM, arc_fits, is_barrier, class_of, classes_from, canonical}
use Rattle.skew.specs.declared.Arc.{Arc}
use Rattle.skew.specs.Paths.{tail, head, WellFormed}
use Rattle.skew.specs.Barrier.{classes_fit, is_entry, Barrier, EntryArc, NodeClass, in_X, in_A, in_A', in_M}
use Rattle.counting.proofs.Booleans.{and_two, and_five, and_both, or_right, or_cases, or_false_left, or_false_right, by_test, true_false, same_or}
use Rattle.counting.proofs.Membership.{all_each, each_all, all_get_d, get_d_all}
use Rattle.counting.proofs.Range.{up_in, in_up, length_up}
use Rattle.skew.proofs.Paths.{mate_arc, tail_node}

-- WHICH CLASSES FIT
pub fit_from_A : (a b : ℕ) → classes_fit a b ≡ true → a ≡ 1 → (b ≢ 2) × (b ≢ 0)
fit_from_A a b e p = (λ q. true_false (rw (p, q) at e) refl, λ q. true_false (rw (p, q) at e) refl)

pub fit_from_X : (a b : ℕ) → classes_fit a b ≡ true → 3 ≤ a → (b ≡ a) ⊎ ((b ≡ 1) ⊎ (b ≡ 2))
fit_from_X a b e p =
    by_test (eqb a b) (λ t. inl (sym (eqb-true a b t)))
    (λ t. by_test (isXM b)
    (λ x. true_false (rw (x, t, le-leb 3 a p) at e) refl)
    (λ x.
    let low = leb-false 3 b (or_false_left (leb 3 b) (eqb b 0) x) in
    let some : b ≢ 0 = eqb-false b 0 (or_false_right (leb 3 b) (eqb b 0) x) in
    inr (⊎_elim (λ q. inl q) (λ q. inr (omega arith)) (same_or b 1))))

x_is : (k : ℕ) → isXM (3 + k) ≡ true
x_is k = rw (le-leb 3 (3 + k) (omega arith))

pub fit_X_X : (k : ℕ) → classes_fit (3 + k) (3 + k) ≡ true
fit_X_X k = rw (x_is k, eq-eqb (3 + k) (3 + k) refl, ne_eqb (3 + k) 1 (omega arith))

pub fit_X_A : (k : ℕ) → classes_fit (3 + k) 1 ≡ true
fit_X_A k = rw (x_is k, ne_eqb (3 + k) 1 (omega arith))

pub fit_X_A' : (k : ℕ) → classes_fit (3 + k) 2 ≡ true
fit_X_A' k = rw (x_is k, ne_eqb (3 + k) 1 (omega arith))

pub fit_A_X : (k : ℕ) → classes_fit 1 (3 + k) ≡ true
fit_A_X k = rw (ne_eqb (3 + k) 2 (omega arith), ne_eqb (3 + k) 0 (omega arith))

-- ENTRIES INTO A CLASS
module _ (cs : List ℕ) (c : ℕ) where
  pub entry_counted : (xs : List Arc) (i : ℕ) → i < length xs → is_entry cs c (get_or xs i no_arc) ≡ true → 1 ≤ entries_into cs c xs
  unfolding entries_into
  entry_counted [] i h e = absurd (omega arith)
  entry_counted (x ∷ xs) zero h e = rw e (omega arith)
  entry_counted (x ∷ xs) (suc i) h e = omega (arith, entry_counted xs i (omega arith) e)

  pub entry_unique : (xs : List Arc) (i j : ℕ) → i < length xs → j < length xs → is_entry cs c (get_or xs i no_arc) ≡ true →
      is_entry cs c (get_or xs j no_arc) ≡ true → entries_into cs c xs ≡ 1 → i ≡ j
  unfolding entries_into
  entry_unique [] i j h k e f n = absurd (omega arith)
  entry_unique (x ∷ xs) zero zero h k e f n = refl
  entry_unique (x ∷ xs) zero (suc j) h k e f n = absurd (omega (arith, rw e at n, entry_counted xs j (omega arith) f))
  entry_unique (x ∷ xs) (suc i) zero h k e f n = absurd (omega (arith, rw f at n, entry_counted xs i (omega arith) e))
  entry_unique (x ∷ xs) (suc i) (suc j) h k e f n =
      ap suc (entry_unique xs i j (omega arith) (omega arith) e f (omega (arith, entry_counted xs i (omega arith) e)))

  no_entry : (xs : List Arc) → ((i : ℕ) → i < length xs → is_entry cs c (get_or xs i no_arc) ≡ true → ⊥) → entries_into cs c xs ≡ 0
  unfolding entries_into
  no_entry [] h = refl
  no_entry (x ∷ xs) h =
      by_test (is_entry cs c x) (λ t. absurd (h 0 (omega arith) t)) (λ t. rw t (omega (arith, no_entry xs (λ i l. h (suc i) (omega arith)))))

  pub sole_entry : (xs : List Arc) (i : ℕ) → i < length xs → is_entry cs c (get_or xs i no_arc) ≡ true →
      ((j : ℕ) → j < length xs → is_entry cs c (get_or xs j no_arc) ≡ true → j ≡ i) → entries_into cs c xs ≡ 1
  unfolding entries_into
  sole_entry [] i h e u = absurd (omega arith)
  sole_entry (x ∷ xs) zero h e u =
      rw e (omega (arith, no_entry xs (λ j l t. omega (arith, u (suc j) (omega arith) t))))
  sole_entry (x ∷ xs) (suc i) h e u =
      by_test (is_entry cs c x) (λ t. absurd (omega (arith, u 0 (omega arith) t)))
      (λ t. rw t (omega (arith, sole_entry xs i (omega arith) e (λ j l k. omega (arith, u (suc j) (omega arith) k)))))

-- THE LARGEST CLASS
pub class_largest : (cs : List ℕ) (v : ℕ) → class_at cs v ≤ largest_of cs
unfolding largest_of
class_largest [] v = omega arith
class_largest (x ∷ xs) v =
    by_test (ltb (largest_of xs) x) (λ t. rw t (new (ltb-true (largest_of xs) x t) v (class_largest xs)))
    (λ t. rw t (old (ltb-false (largest_of xs) x t) v (class_largest xs)))
  where
    new : largest_of xs < x → (v : ℕ) → ((w : ℕ) → class_at xs w ≤ largest_of xs) → class_at (x ∷ xs) v ≤ x
    new h zero ih = omega arith
    new h (suc w) ih = omega (arith, ih w)

    old : x ≤ largest_of xs → (v : ℕ) → ((w : ℕ) → class_at xs w ≤ largest_of xs) → class_at (x ∷ xs) v ≤ largest_of xs
    old h zero ih = omega arith
    old h (suc w) ih = ih w

pub largest_is : (xs : List ℕ) → 0 < largest_of xs → (i : ℕ) × (i < length xs) × (get_or xs i 0 ≡ largest_of xs)
unfolding largest_of
largest_is [] h = absurd (omega arith)
largest_is (x ∷ xs) h =
    by_test (ltb (largest_of xs) x) (λ t. rw t (0, omega arith, refl))
    (λ t. rw t (let r = largest_is xs (rw t at h) in (suc r.0, omega (arith, r.1), r.2)))

-- THE TEST is_barrier
pub barrier : (g : Graph) (cs : List ℕ) → is_barrier g cs ≡ true → Barrier g cs
barrier g cs e =
    let r =
    and_five (eqb (length cs) (nodes g)) (eqb (class_at cs g.source) 1) (all (mates_agree cs) (below (nodes g))) (all (arc_fits cs) g.arcs)
    (all (λ (c : ℕ). ltb c 3 || eqb (entries_into cs c g.arcs) 1) (below (suc (largest_of cs)))) e in
    record {
      source_class = eqb-true _ _ r.1;
      mate_class_lem = λ v h. eqb-true _ _ (all_each (mates_agree cs) (below (nodes g)) r.2 v (up_in 0 (nodes g) v (omega arith) (omega arith)));
      arc_fits_lem = λ i h. all_get_d (arc_fits cs) g.arcs no_arc i r.3 h;
      one_entry = λ c h l.
          ⊎_elim (λ q. absurd (omega (arith, ltb-true c 3 q))) (λ q. eqb-true _ _ q)
          (or_cases (ltb c 3) (eqb (entries_into cs c g.arcs) 1)
          (all_each (λ (c : ℕ). ltb c 3 || eqb (entries_into cs c g.arcs) 1) (below (suc (largest_of cs))) r.4 c
          (up_in 0 (suc (largest_of cs)) c (omega arith) (omega arith))));
    }

pub barrier_test : (g : Graph) (cs : List ℕ) → length cs ≡ nodes g → Barrier g cs → is_barrier g cs ≡ true
barrier_test g cs e B =
    and_both _ _
    (and_both _ _
    (and_both _ _ (and_both _ _ (eq-eqb _ _ e) (eq-eqb _ _ B.source_class))
    (each_all (mates_agree cs) (below (nodes g)) (λ v m. eq-eqb _ _ (B.mate_class_lem v (omega (arith, in_up 0 (nodes g) v m))))))
    (get_d_all (arc_fits cs) g.arcs no_arc B.arc_fits_lem))
    (each_all (λ (c : ℕ). ltb c 3 || eqb (entries_into cs c g.arcs) 1) (below (suc (largest_of cs)))
    (λ c m.
    by_test (ltb c 3) (λ t. rw t)
    (λ t.
    or_right (ltb c 3) (eqb (entries_into cs c g.arcs) 1)
    (eq-eqb _ _ (B.one_entry c (ltb-false c 3 t) (omega (arith, in_up 0 (suc (largest_of cs)) c m)))))))

-- BARRIERS
pub X_mate_class : (c : ℕ) → 3 ≤ c → mate_class c ≡ c
X_mate_class c h = rw (ne_eqb c 1 (omega arith), ne_eqb c 2 (omega arith))

pub entry_test : (g : Graph) (cs : List ℕ) (i c : ℕ) → EntryArc g cs i c → is_entry cs c (arc_at g i) ≡ true
entry_test g cs i c E = and_both _ _ (eq-eqb _ _ E.from_A) (eq-eqb _ _ E.into_X)

pub test_entry : (g : Graph) (cs : List ℕ) (i c : ℕ) → i < length g.arcs → 3 ≤ c → is_entry cs c (arc_at g i) ≡ true → EntryArc g cs i c
test_entry g cs i c h x e =
    let r = and_two (eqb (class_at cs (tail g i)) 1) (eqb (class_at cs (head g i)) c) e in
    record { is_arc = h; is_X = x; from_A = eqb-true _ _ r.0; into_X = eqb-true _ _ r.1 }

pub entries_same : (g : Graph) (cs : List ℕ) → Barrier g cs → (i j c : ℕ) → EntryArc g cs i c → EntryArc g cs j c → i ≡ j
entries_same g cs B i j c E F =
    entry_unique cs c g.arcs i j E.is_arc F.is_arc (entry_test g cs i c E) (entry_test g cs j c F)
    (B.one_entry c E.is_X (subst (λ (z : ℕ). z ≤ largest_of cs) E.into_X (class_largest cs (head g i))))

pub exit_entry : (g : Graph) → WellFormed g → (cs : List ℕ) → Barrier g cs → (i : ℕ) → i < length g.arcs → 3 ≤ class_at cs (tail g i) →
    class_at cs (head g i) ≡ 2 → EntryArc g cs (mate i) (class_at cs (tail g i))
exit_entry g wf cs B i h x two =
    let r = mate_arc g wf.symmetric i h in
    record {
      is_arc = r.0;
      is_X = x;
      from_A = rw (r.1, B.mate_class_lem (head g i) (wf.head_node i h), two);
      into_X = rw (r.2, B.mate_class_lem (tail g i) (tail_node g wf i h), X_mate_class (class_at cs (tail g i)) x);
    }

-- THE CANONICAL CLASSES
classes_at : (g : Graph) (a n i : ℕ) → i < n → get_or (classes_from g (up_from a n)) i 0 ≡ class_of g (a + i)
unfolding classes_from up_from
classes_at g a zero i h = absurd (omega arith)
classes_at g a (suc n) zero h = ap (class_of g) (omega arith)
classes_at g a (suc n) (suc i) h = classes_at g (suc a) n i (omega arith) ∙ ap (class_of g) (omega arith)

classes_length : (g : Graph) (xs : List ℕ) → length (classes_from g xs) ≡ length xs
unfolding classes_from
classes_length g [] = refl
classes_length g (x ∷ xs) = ap suc (classes_length g xs)

pub canonical_class : (g : Graph) (v : ℕ) → v < nodes g → class_at (canonical g) v ≡ class_of g v
canonical_class g v h = classes_at g 0 (nodes g) v h ∙ ap (class_of g) (omega arith)

pub canonical_length : (g : Graph) → length (canonical g) ≡ nodes g
canonical_length g = classes_length g (below (nodes g)) ∙ length_up 0 (nodes g)

pub node_class : (g : Graph) (v : ℕ) → NodeClass g v
node_class g v =
    by_test (is_reachable g v)
    (λ s. by_test (is_reachable g (mate v)) (λ t. in_X s t (rw (s, t))) (λ t. in_A s t (rw (s, t))))
    (λ s. by_test (is_reachable g (mate v)) (λ t. in_A' s t (rw (s, t))) (λ t. in_M s t (rw (s, t))))
