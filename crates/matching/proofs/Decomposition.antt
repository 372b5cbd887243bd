-- The doubled table of p without a path gives the Gallai-Edmonds certificate: outer cameras are those with 2k reachable, inner ones those with only 2k+1
-- reachable, and groups are the parts of the canonical barrier. Each clause is read off the barrier's arcs.
--   certificate      the certificate that p is largest
use mathlib.Core.Path.{◌≡◌, sym, ap, subst, ◌∙◌}
use mathlib.Core.Logic.{◌⊎◌, inl, inr, ◌≢◌, ⊎_elim}
use mathlib.Core.Bool.{Bool, true, false, not}
use mathlib.Core.List.{List}
use Prim.Native.Nat.{ℕ, ◌+◌, ◌*◌, ◌≤◌, ◌<◌}
use native.Mathlib.Omega.{arith}
use lib.ListN.{length}
use borrow.Author.Tests.{not-true}
use Rattle.counting.specs.declared.Pair.{Pair}
use Rattle.counting.proofs.Booleans.{and_two, true_false, same_or}
use Rattle.skew.specs.Graph.{Graph, mate, arc_at, is_reachable, has_path, class_at, canonical}
use Rattle.skew.specs.Paths.{tail, head, WellFormed}
use Rattle.skew.specs.Barrier.{Barrier}
use Rattle.skew.proofs.Paths.{mate_arc}
use Rattle.skew.proofs.AlongPaths.{last_arc}
use Rattle.skew.proofs.Classes.{fit_from_A, fit_from_X}
use Rattle.skew.proofs.Entries.{canonical_barrier_of, both, outer, inner, none}
use Rattle.matching.specs.Matching.{FitsBelow, Fits, Matching}
use Rattle.matching.specs.DoubledTable.{doubled_table, ArcKind, from_source, to_mate, lit_fit, other_fit, is_outer, is_inner}
use Rattle.matching.specs.Certificate.{Certificate}
use Rattle.matching.proofs.Matchings.{fits_low, matching_low}
use Rattle.matching.proofs.DoubledTable.{mate_even, mate_odd, arc_kind, source_arc, lit_arc, other_arc, table_well_formed}
use Rattle.matching.proofs.Groups.{EntryTo, Camera, camera_classes, no_odd_entry, group, group_self, group_entry, group_same, Entered, entered}

module _ (n : ℕ) (fs : List Pair) (F : FitsBelow n fs) (p : ℕ → ℕ) (M : Matching fs p) (no_path : has_path (doubled_table n fs p) ≡ false) where
  abbrev g : Graph
  g = doubled_table n fs p

  abbrev W : WellFormed g
  W = table_well_formed n fs F p M

  abbrev Z : ℕ → Bool
  Z v = is_reachable g v

  abbrev class : ℕ → ℕ
  class v = class_at (canonical g) v

  abbrev B : Barrier g (canonical g)
  B = canonical_barrier_of g W no_path

  abbrev representative : ℕ → ℕ
  representative = group n fs F p M no_path

  abbrev NodesOf : ℕ → Type 0
  NodesOf = Camera n fs F p M no_path

  abbrev nodes_of : (k : ℕ) → k ≤ n → NodesOf k
  nodes_of = camera_classes n fs F p M no_path

  -- an arc out of an Xi to another Xi or to M
  same_part : (i : ℕ) → i < length g.arcs → 3 ≤ class (tail g i) → class (head g i) ≢ 1 → class (head g i) ≢ 2 → class (head g i) ≡ class (tail g i)
  same_part i h l a b = ⊎_elim (λ e. e) (⊎_elim (λ e. absurd (a e)) (λ e. absurd (b e))) (fit_from_X (class (tail g i)) (class (head g i)) (B.arc_fits_lem i h) l)

  -- an arc into 2k comes from the partner, if there is one
  from_partner : (k i : ℕ) → i < length g.arcs → p k ≢ k → head g i ≡ 2 * k → tail g i ≡ 2 * p k + 1
  from_partner k i h ne e = go (arc_kind n fs F p M i h)
    where
      go : ArcKind n fs p (arc_at g i) → tail g i ≡ 2 * p k + 1
      go (from_source r l q a b) = let w : r ≡ k = omega arith in absurd (ne (ap p (sym w) ∙ q ∙ w))
      go (to_mate r l q a b) = absurd (omega arith)
      go (lit_fit r l pl q a b) = let w : p r ≡ k = omega arith in let x : r ≡ p k = sym (M.back r) ∙ ap p w in omega arith
      go (other_fit u v f q a b) = absurd (omega arith)

  lit_back : (k : ℕ) → p k ≢ k → Z (2 * k) ≡ true → Z (2 * p k + 1) ≡ true
  lit_back k ne e =
      let low = (fits_low n fs F k (p k) (M.fit k ne)).0 in
      let r = last_arc g W (2 * k) e (λ z. omega arith) in
      subst (λ (z : ℕ). Z z ≡ true) (from_partner k r.0 r.1 ne r.2) r.3

  lit_there : (k : ℕ) → p k ≢ k → Z (2 * p k) ≡ true → Z (2 * k + 1) ≡ true
  lit_there k ne e = subst (λ (z : ℕ). Z (2 * z + 1) ≡ true) (M.back k) (lit_back (p k) (λ q. ne (sym q ∙ M.back k)) e)

  in_inner : (k : ℕ) → Z (2 * k) ≡ false → Z (2 * k + 1) ≡ true → is_inner n fs p k ≡ true
  in_inner k s t = rw (s, t)

  inner_in : (k : ℕ) → is_inner n fs p k ≡ true → (Z (2 * k) ≡ false) × (Z (2 * k + 1) ≡ true)
  inner_in k e = let r = and_two (not (Z (2 * k))) (Z (2 * k + 1)) e in (not-true _ r.0, r.1)

  -- an arc from A to 2k: outer, and its own representative
  from_A : (k i : ℕ) → k ≤ n → i < length g.arcs → class (tail g i) ≡ 1 → head g i ≡ 2 * k → (Z (2 * k) ≡ true) × (representative k ≡ k)
  from_A k i h l a b = go (nodes_of k h)
    where
      go : NodesOf k → (Z (2 * k) ≡ true) × (representative k ≡ k)
      go (both s t x y) = (s, group_entry n fs F p M no_path k k i (record { is_arc = l; is_X = x; from_A = a; into_X = ap class b }) b)
      go (outer s t x y) = (s, group_self n fs F p M no_path k x)
      go (inner s t x y) = absurd ((fit_from_A (class (tail g i)) (class (head g i)) (B.arc_fits_lem i l) a).0 (ap class b ∙ x))
      go (none s t x y) = absurd ((fit_from_A (class (tail g i)) (class (head g i)) (B.arc_fits_lem i l) a).1 (ap class b ∙ x))

  -- FITS
  abbrev Fitting : ℕ → ℕ → Type 0
  Fitting u v = (is_inner n fs p v ≡ true) ⊎ ((Z (2 * v) ≡ true) × (representative u ≡ representative v))

  lit_fits : (u : ℕ) → u < n → p u < n → p u ≢ u → Z (2 * u) ≡ true → Fitting u (p u)
  lit_fits u h l ne d = go (nodes_of u (omega arith)) (nodes_of (p u) (omega arith)) (lit_back u ne d)
    where
      go : NodesOf u → NodesOf (p u) → Z (2 * p u + 1) ≡ true → Fitting u (p u)
      go cu (outer s t a b) z = true_false z t
      go cu (inner s t a b) z = inl (in_inner (p u) s t)
      go cu (none s t a b) z = true_false z t
      go (outer s' t' a' b') (both s t a b) z = true_false (lit_there u ne s) t'
      go (inner s' t' a' b') (both s t a b) z = true_false d s'
      go (none s' t' a' b') (both s t a b) z = true_false d s'
      go (both s' t' a' b') (both s t a b) z =
          let i = lit_arc n fs F p M u ne in
          let ca : class (tail g i.0) ≡ class (2 * u) = ap class i.2 ∙ b' in
          let cb : class (head g i.0) ≡ class (2 * p u) = ap class i.3 in
          let w = same_part i.0 i.1 (omega arith) (λ y. omega arith) (λ y. omega arith) in
          inr (s, group_same n fs F p M no_path u (p u) a' (omega arith))

  other_fits : (u v : ℕ) → Fits fs u v → p u ≢ v → Z (2 * u) ≡ true → Fitting u v
  other_fits u v f ne d =
      let l = fits_low n fs F u v f in
      let i = other_arc n fs F p M u v f ne in
      let m = mate_arc g W.symmetric i.0 i.1 in
      go i.0 i.1 i.2 i.3 m.0 (m.1 ∙ ap (λ (z : ℕ). mate z) i.3 ∙ mate_odd v) (m.2 ∙ ap (λ (z : ℕ). mate z) i.2 ∙ mate_even u)
      (nodes_of u (omega (arith, l.0))) (nodes_of v (omega (arith, l.1)))
    where
      no_odd : (i c k : ℕ) → EntryTo n fs F p M no_path i c → head g i ≡ 2 * k + 1 → Fitting u v
      no_odd i c k E e = absurd (no_odd_entry n fs F p M no_path i c k E e)

      go : (i : ℕ) → i < length g.arcs → tail g i ≡ 2 * u → head g i ≡ 2 * v + 1 → mate i < length g.arcs → tail g (mate i) ≡ 2 * v →
          head g (mate i) ≡ 2 * u + 1 → NodesOf u → NodesOf v → Fitting u v
      go i h a b h' a' b' (inner s t x y) cv = true_false d s
      go i h a b h' a' b' (none s t x y) cv = true_false d s
      go i h a b h' a' b' (outer s t x y) (inner s' t' x' y') = inl (in_inner v s' t')
      go i h a b h' a' b' (both s t x y) (inner s' t' x' y') = inl (in_inner v s' t')
      go i h a b h' a' b' (outer s t x y) (both s' t' x' y') =
          no_odd i (class (2 * v)) v (record { is_arc = h; is_X = x'; from_A = ap class a ∙ x; into_X = ap class b ∙ y' }) b
      go i h a b h' a' b' (outer s t x y) (outer s' t' x' y') =
          absurd ((fit_from_A (class (tail g i)) (class (head g i)) (B.arc_fits_lem i h) (ap class a ∙ x)).0 (ap class b ∙ y'))
      go i h a b h' a' b' (outer s t x y) (none s' t' x' y') =
          absurd ((fit_from_A (class (tail g i)) (class (head g i)) (B.arc_fits_lem i h) (ap class a ∙ x)).1 (ap class b ∙ y'))
      go i h a b h' a' b' (both s t x y) (both s' t' x' y') =
          let ca : class (tail g i) ≡ class (2 * u) = ap class a in
          let cb : class (head g i) ≡ class (2 * v) = ap class b ∙ y' in
          let w = same_part i h (omega arith) (λ z. omega arith) (λ z. omega arith) in
          inr (s', group_same n fs F p M no_path u v x (omega arith))
      go i h a b h' a' b' (both s t x y) (outer s' t' x' y') =
          no_odd (mate i) (class (2 * u)) u (record { is_arc = h'; is_X = x; from_A = ap class a' ∙ x'; into_X = ap class b' ∙ y }) b'
      go i h a b h' a' b' (both s t x y) (none s' t' x' y') =
          let ca : class (tail g i) ≡ class (2 * u) = ap class a in
          let cb : class (head g i) ≡ 0 = ap class b ∙ y' in
          absurd (omega (arith, same_part i h (omega arith) (λ z. omega arith) (λ z. omega arith)))

  -- UNLIT, INNER, REPRESENTATIVE, MEMBER
  unlit_is : (k : ℕ) → k < n → p k ≡ k → (Z (2 * k) ≡ true) × (representative k ≡ k)
  unlit_is k h e = let i = source_arc n fs F p M k h e in from_A k i.0 (omega arith) i.1 (ap class i.2 ∙ B.source_class) i.3

  inner_is : (k : ℕ) → k < n → Z (2 * k) ≡ false → Z (2 * k + 1) ≡ true → (p k ≢ k) × (Z (2 * p k) ≡ true) × (representative (p k) ≡ p k)
  inner_is k h d e = let r = go (nodes_of k (omega arith)) in (ne, r.0, r.1)
    where
      ne : p k ≢ k
      ne q = true_false (unlit_is k h q).0 d

      go : NodesOf k → (Z (2 * p k) ≡ true) × (representative (p k) ≡ p k)
      go (both s t x y) = true_false s d
      go (outer s t x y) = true_false s d
      go (none s t x y) = true_false e t
      go (inner s t x y) =
          let i = lit_arc n fs F p M k ne in
          from_A (p k) i.0 (omega (arith, matching_low n fs F p M k h)) i.1 (ap class i.2 ∙ y) i.3

  representative_is : (k : ℕ) → k < n → Z (2 * k) ≡ true → representative k ≡ k → (p k ≡ k) ⊎ (is_inner n fs p (p k) ≡ true)
  representative_is k h d e =
      ⊎_elim (λ q. inl q) (λ q. inr (lit_case q (nodes_of k (omega arith)) (nodes_of (p k) (omega (arith, matching_low n fs F p M k h))))) (same_or (p k) k)
    where
      lit_case : p k ≢ k → NodesOf k → NodesOf (p k) → is_inner n fs p (p k) ≡ true
      lit_case ne ck (inner s t x y) = in_inner (p k) s t
      lit_case ne ck (outer s t x y) = true_false (lit_back k ne d) t
      lit_case ne ck (none s t x y) = true_false (lit_back k ne d) t
      lit_case ne (inner s' t' x' y') (both s t x y) = true_false d s'
      lit_case ne (none s' t' x' y') (both s t x y) = true_false d s'
      lit_case ne (outer s' t' x' y') (both s t x y) = true_false (lit_there k ne s) t'
      lit_case ne (both s' t' x' y') (both s t x y) =
          let E = entered n fs F p M no_path k d x' in
          let same : E.camera ≡ k = sym (group_entry n fs F p M no_path k E.camera E.arc E.entry E.leads) ∙ e in
          let f : tail g E.arc ≡ 2 * p k + 1 = from_partner k E.arc E.entry.is_arc ne (E.leads ∙ ap (λ (z : ℕ). 2 * z) same) in
          let c : class (2 * p k + 1) ≡ 1 = ap class (sym f) ∙ E.entry.from_A in
          absurd (omega arith)

  member_is : (k : ℕ) → k < n → Z (2 * k) ≡ true → representative k ≢ k → (p k ≢ k) × (Z (2 * p k) ≡ true) × (representative (p k) ≡ representative k)
  member_is k h d e = let r = go (lit_fits k h (matching_low n fs F p M k h) ne d) in (ne, r.0, r.1)
    where
      ne : p k ≢ k
      ne q = e (unlit_is k h q).1

      -- an inner partner would make k its own representative
      go : Fitting k (p k) → (Z (2 * p k) ≡ true) × (representative (p k) ≡ representative k)
      go (inr r) = (r.0, sym r.1)
      go (inl t) =
          let s = inner_in (p k) t in
          let r = inner_is (p k) (matching_low n fs F p M k h) s.0 s.1 in
          absurd (e (subst (λ (z : ℕ). representative z ≡ z) (M.back k) r.2))

  represented_is : (k : ℕ) → k < n → Z (2 * k) ≡ true → (representative k < n) × (Z (2 * representative k) ≡ true) × (representative (representative k) ≡ representative k)
  represented_is k h d = go (nodes_of k (omega arith))
    where
      at : (E : Entered n fs F p M no_path k) → NodesOf E.camera → class (2 * E.camera) ≡ class (2 * k) → 3 ≤ class (2 * k) →
          (representative k < n) × (Z (2 * representative k) ≡ true) × (representative (representative k) ≡ representative k)
      at E (inner s t x y) c l = absurd (omega arith)
      at E (none s t x y) c l = absurd (omega arith)
      at E (outer s t x y) c l = absurd (omega arith)
      at E (both s t x y) c l =
          let e : representative k ≡ E.camera = group_entry n fs F p M no_path k E.camera E.arc E.entry E.leads in
          let low = E.low in
          (omega arith, subst (λ (z : ℕ). Z (2 * z) ≡ true) (sym e) s, ap representative e ∙ group_same n fs F p M no_path E.camera k x c)

      go : NodesOf k → (representative k < n) × (Z (2 * representative k) ≡ true) × (representative (representative k) ≡ representative k)
      go (inner s t x y) = true_false d s
      go (none s t x y) = true_false d s
      go (outer s t x y) =
          let e = group_self n fs F p M no_path k x in (omega arith, subst (λ (z : ℕ). Z (2 * z) ≡ true) (sym e) d, ap representative e)
      go (both s t x y) =
          let E = entered n fs F p M no_path k d x in
          at E (nodes_of E.camera (omega (arith, E.low))) (ap class (sym E.leads) ∙ E.entry.into_X) x

  pub certificate : Certificate n fs p (is_outer n fs p) (is_inner n fs p) representative
  certificate =
      record {
        fits = λ u v f d.
            let l = fits_low n fs F u v f in
            ⊎_elim (λ e. subst (λ (z : ℕ). Fitting u z) e (lit_fits u l.0 (omega (arith, l.1)) (λ q. l.2 (sym q ∙ e)) d))
            (λ e. other_fits u v f e d) (same_or (p u) v);
        apart = λ k e. (inner_in k e).0;
        unlit = unlit_is;
        inner = λ k h e. let r = inner_in k e in inner_is k h r.0 r.1;
        representative = representative_is;
        member = member_is;
        represented = represented_is;
      }
