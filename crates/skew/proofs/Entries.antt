-- A graph without a path, read by its canonical barrier (document 000, section 2.1).
--   canonical_barrier_of            the canonical classes are a barrier
--   Classes v w, classes_of         a node and its mate: both reachable, one of them, or none, and their classes
--   Entry i c                       arc i leads from A into class c, an Xi
--   entry_one                       each Xi has one entry
--   find_entry, find_entry_lem      found by trial
--   path_entry                      a regular path to a node of an Xi goes over its entry
use mathlib.Core.Path.{◌≡◌, refl, sym, ap, ◌∙◌}
use mathlib.Core.Logic.{◌⊎◌, inl, inr, ⊎_elim}
use mathlib.Core.Bool.{Bool, true, false}
use mathlib.Core.List.{List, [], ◌∷◌}
use Prim.Native.Nat.{ℕ, ◌≤◌, ◌<◌}
use native.Mathlib.Omega.{arith}
use lib.ListN.{length}
use Rattle.counting.specs.Tests.{below}
use Rattle.counting.specs.Lists.{In, find}
use Rattle.skew.specs.Graph.{Graph, mate, nodes, arc_at, nodes_along, is_reachable, has_path, class_at, mate_class, class_of, canonical}
use Rattle.skew.specs.Paths.{tail, head, Joins, WellFormed}
use Rattle.skew.specs.Barrier.{is_entry, Barrier, EntryArc, NodeClass, in_X, in_A, in_A', in_M}
use Rattle.counting.proofs.Booleans.{true_false}
use Rattle.counting.proofs.Kept.{found}
use Rattle.counting.proofs.Range.{up_in, in_up}
use Rattle.skew.proofs.Paths.{nodes_within}
use Rattle.skew.proofs.AlongPaths.{PathTo, along_reachable}
use Rattle.skew.proofs.Classes.{fit_from_X, barrier, X_mate_class, entry_test, test_entry, entries_same, canonical_class, node_class}
use Rattle.skew.proofs.Barrier.{no_path_barrier}

module _ (g : Graph) (W : WellFormed g) (no_path : has_path g ≡ false) where
  abbrev Z : ℕ → Bool
  Z v = is_reachable g v

  abbrev pub class : ℕ → ℕ
  class v = class_at (canonical g) v

  pub canonical_barrier_of : Barrier g (canonical g)
  canonical_barrier_of = barrier g (canonical g) (no_path_barrier g W no_path)

  -- A NODE AND ITS MATE
  pub data Classes (v w : ℕ) : Type 0 where
    both : Z v ≡ true → Z w ≡ true → 3 ≤ class v → class w ≡ class v → Classes v w
    outer : Z v ≡ true → Z w ≡ false → class v ≡ 1 → class w ≡ 2 → Classes v w
    inner : Z v ≡ false → Z w ≡ true → class v ≡ 2 → class w ≡ 1 → Classes v w
    none : Z v ≡ false → Z w ≡ false → class v ≡ 0 → class w ≡ 0 → Classes v w

  pub classes_of : (v : ℕ) → v < nodes g → Classes v (mate v)
  classes_of v h = go (node_class g v)
    where
      c : class v ≡ class_of g v
      c = canonical_class g v h

      m : class (mate v) ≡ mate_class (class v)
      m = canonical_barrier_of.mate_class_lem v h

      go : NodeClass g v → Classes v (mate v)
      go (in_X s t e) = let x : 3 ≤ class v = omega (arith, c, e) in both s t x (m ∙ X_mate_class (class v) x)
      go (in_A s t e) = outer s t (c ∙ e) (m ∙ rw (c ∙ e))
      go (in_A' s t e) = inner s t (c ∙ e) (m ∙ rw (c ∙ e))
      go (in_M s t e) = none s t (c ∙ e) (m ∙ rw (c ∙ e))

  -- a reachable node is in A or in an Xi
  reachable_class : (v : ℕ) → v < nodes g → Z v ≡ true → (class v ≡ 1) ⊎ (3 ≤ class v)
  reachable_class v h e = go (classes_of v h)
    where
      go : Classes v (mate v) → (class v ≡ 1) ⊎ (3 ≤ class v)
      go (both s t a b) = inr a
      go (outer s t a b) = inl a
      go (inner s t a b) = true_false e s
      go (none s t a b) = true_false e s

  -- ENTRIES
  abbrev pub Entry : (i c : ℕ) → Type 0
  Entry i c = EntryArc g (canonical g) i c

  pub entry_one : (i j c : ℕ) → Entry i c → Entry j c → i ≡ j
  entry_one = entries_same g (canonical g) canonical_barrier_of

  pub find_entry : ℕ → ℕ
  find_entry c = find (λ (i : ℕ). is_entry (canonical g) c (arc_at g i)) (below (length g.arcs))

  pub find_entry_lem : (i c : ℕ) → Entry i c → find_entry c ≡ i
  unfolding find_entry
  find_entry_lem i c E =
      let m = length g.arcs in
      let f =
      found (λ (j : ℕ). is_entry (canonical g) c (arc_at g j)) (below m) i (up_in 0 m i (omega arith) (omega (arith, E.is_arc)))
      (entry_test g (canonical g) i c E) in
      entry_one (find_entry c) i c
      (test_entry g (canonical g) (find_entry c) c (omega (arith, in_up 0 m (find_entry c) f.0)) E.is_X f.1) E

  -- a path to a node w of an Xi that has met w's class, or goes over its entry
  abbrev Enters : (v w : ℕ) → List ℕ → Type 0
  Enters v w q = (class v ≡ class w) ⊎ ((i : ℕ) × In i q × Entry i (class w))

  walk : (v w : ℕ) (q : List ℕ) → Joins g v w q → ((x : ℕ) → In x (nodes_along g v q) → (x < nodes g) × (Z x ≡ true)) → 3 ≤ class w → Enters v w q
  unfolding nodes_along
  walk v w [] j z h = inl (ap class j)
  walk v w (i ∷ is) j z h = go (walk (head g i) w is j.2 (λ x m. z x (inr m)) h)
    where
      -- the first arc leads into w's class
      into : class (head g i) ≡ class w → Enters v w (i ∷ is)
      into e =
          let r = z v (inl refl) in
          let t : class (tail g i) ≡ class v = ap class j.1 in
          ⊎_elim (λ a. inr (i, inl refl, record { is_arc = j.0; is_X = h; from_A = t ∙ a; into_X = e }))
          (λ a.
          ⊎_elim (λ s. inl (sym t ∙ sym s ∙ e)) (⊎_elim (λ s. absurd (omega arith)) (λ s. absurd (omega arith)))
          (fit_from_X (class (tail g i)) (class (head g i)) (canonical_barrier_of.arc_fits_lem i j.0) (omega (arith, t, a))))
          (reachable_class v r.0 r.1)

      go : Enters (head g i) w is → Enters v w (i ∷ is)
      go (inl e) = into e
      go (inr r) = inr (r.0, inr r.1, r.2)

  pub path_entry : (v : ℕ) (q : List ℕ) → PathTo g W v q → 3 ≤ class v → (i : ℕ) × In i q × Entry i (class v)
  path_entry v q P h =
      let s = canonical_barrier_of.source_class in
      let low : (x : ℕ) → In x (nodes_along g g.source q) → x < nodes g =
      nodes_within g (nodes g) g.source v q W.head_node W.source_node P.joins in
      ⊎_elim (λ e. absurd (omega arith)) (λ r. r)
      (walk g.source v q P.joins (λ x m. (low x m, along_reachable g W v q P x m)) h)
