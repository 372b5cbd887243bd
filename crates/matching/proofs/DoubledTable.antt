-- The doubled table's arcs.
--   mate_even, mate_odd                      a camera's two nodes are mates
--   camera_arcs_few, fit_arcs_few            at most two arcs for a camera, and for a fit
--   camera_arcs_rest                         the arcs of cameras stand before the rest
--   by_camera                                cases on what p says of a camera
--   arc_kind                                 each arc is of one of the four kinds
--   source_arc, lit_arc, other_arc           and of each kind every one is there
--   camera_size, table_size                  at most 2 · (cameras + fits) arcs
--   table_well_formed                        a well-formed graph
--   table_two_ends                           no arc leads from a node to itself, whatever the fits and the partners
use mathlib.Core.Path.{◌≡◌, refl, sym, ap, subst, ◌∙◌}
use mathlib.Core.Logic.{inl, inr, ◌≢◌, ⊎_elim}
use mathlib.Core.Bool.{true, false}
use mathlib.Core.List.{List, [], ◌∷◌, ◌++◌, append_assoc}
use Prim.Native.Nat.{ℕ, suc, ◌+◌, ◌*◌, ◌%◌, ◌≤◌, ◌<◌}
use native.Mathlib.Omega.{arith}
use lib.Dec.{ltb, eqb}
use lib.ListN.{length, length-append}
use borrow.Author.Tests.{eqb-true, eqb-false, eq-eqb, ne_eqb, ltb-true, ltb-false, lt-ltb}
use Rattle.counting.specs.Tests.{all, below}
use Rattle.counting.specs.Lists.{In}
use Rattle.counting.specs.declared.Pair.{Pair}
use Rattle.counting.proofs.Booleans.{and_both, by_test, same_or}
use Rattle.counting.proofs.Membership.{in_get_d, get_d_in}
use Rattle.counting.proofs.Range.{up_in, in_up, length_up}
use Rattle.skew.specs.Graph.{arc, no_arc, Graph, mate, arc_at, mates_fit, has_two_ends}
use Rattle.skew.specs.declared.Arc.{Arc}
use Rattle.skew.specs.Paths.{head, WellFormed}
use Rattle.skew.proofs.Mates.{mate_is}
use Rattle.matching.specs.Matching.{FitsBelow, Fits, Matching}
use Rattle.matching.specs.DoubledTable.{arcs_of_camera, camera_arcs, arcs_of_fit, fit_arcs, doubled_table, ArcKind, from_source, to_mate, lit_fit, other_fit, ArcBetween}
use Rattle.matching.proofs.Matchings.{fits_low}

pub mate_even : (k : ℕ) → mate (2 * k) ≡ 2 * k + 1
mate_even k = omega (arith, mate_is (2 * k))

pub mate_odd : (k : ℕ) → mate (2 * k + 1) ≡ 2 * k
mate_odd k = omega (arith, mate_is (2 * k + 1))

mates_cons : (x y : Arc) (rest : List Arc) → y.tail ≡ mate x.head → y.head ≡ mate x.tail → mates_fit rest ≡ true →
    mates_fit (x ∷ y ∷ rest) ≡ true
unfolding mates_fit
mates_cons x y rest a b e = and_both _ _ (and_both _ _ (eq-eqb y.tail (mate x.head) a) (eq-eqb y.head (mate x.tail) b)) e

pub camera_arcs_few : (n k w : ℕ) → length (arcs_of_camera n k w) ≤ 2
camera_arcs_few n k w =
    by_test (eqb w k) (λ t. rw t (omega arith)) (λ t. by_test (ltb k w) (λ s. rw (t, s) (omega arith)) (λ s. rw (t, s) (omega arith)))

pub fit_arcs_few : (u v w : ℕ) → length (arcs_of_fit u v w) ≤ 2
fit_arcs_few u v w = by_test (eqb w v) (λ t. rw t (omega arith)) (λ t. rw t (omega arith))

pub camera_arcs_rest : (n : ℕ) (p : ℕ → ℕ) (ks : List ℕ) (rest : List Arc) → camera_arcs n p ks [] ++ rest ≡ camera_arcs n p ks rest
unfolding camera_arcs
camera_arcs_rest n p [] rest = refl
camera_arcs_rest n p (k ∷ ks) rest =
    append_assoc (arcs_of_camera n k (p k)) (camera_arcs n p ks []) rest ∙
    ap (λ (l : List Arc). arcs_of_camera n k (p k) ++ l) (camera_arcs_rest n p ks rest)

pub by_camera : {C : Type 0} (p : ℕ → ℕ) (k : ℕ) → (p k ≡ k → eqb (p k) k ≡ true → C) →
    (k < p k → eqb (p k) k ≡ false → ltb k (p k) ≡ true → C) → (p k < k → eqb (p k) k ≡ false → ltb k (p k) ≡ false → C) → C
by_camera p k a b c =
    by_test (eqb (p k) k) (λ t. a (eqb-true _ _ t) t)
    (λ t. by_test (ltb k (p k)) (λ s. b (ltb-true _ _ s) t s)
    (λ s. let ne = eqb-false (p k) k t in let le = ltb-false k (p k) s in c (⊎_elim (λ z. absurd (ne z)) (λ z. omega arith) (same_or (p k) k)) t s))

-- HOW MANY
fit_size : (p : ℕ → ℕ) (xs : List Pair) → length (fit_arcs p xs) ≤ 2 * length xs
unfolding fit_arcs
fit_size p [] = omega arith
fit_size p (x ∷ xs) =
    omega (arith, fit_size p xs, fit_arcs_few x.first x.second (p x.first), length-append (arcs_of_fit x.first x.second (p x.first)) (fit_arcs p xs))

pub camera_size : (n : ℕ) (p : ℕ → ℕ) (ks : List ℕ) (rest : List Arc) → length (camera_arcs n p ks rest) ≤ 2 * length ks + length rest
unfolding camera_arcs
camera_size n p [] rest = omega arith
camera_size n p (k ∷ ks) rest =
    omega (arith, camera_size n p ks rest, camera_arcs_few n k (p k), length-append (arcs_of_camera n k (p k)) (camera_arcs n p ks rest))

pub table_size : (n : ℕ) (fs : List Pair) (p : ℕ → ℕ) → length (doubled_table n fs p).arcs ≤ 2 * n + 2 * length fs
table_size n fs p = omega (arith, camera_size n p (below n) (fit_arcs p fs), fit_size p fs, length_up 0 n)

-- TWO ENDS (document 02, L5)
module _ (p : ℕ → ℕ) where
  fit_two_ends : (xs : List Pair) → all has_two_ends (fit_arcs p xs) ≡ true
  unfolding fit_arcs all
  fit_two_ends [] = refl
  fit_two_ends (x ∷ xs) =
      let apart : (u v : ℕ) → eqb (2 * u) (2 * v + 1) ≡ false = λ u v. ne_eqb (2 * u) (2 * v + 1) (λ e. omega arith) in
      by_test (eqb (p x.first) x.second) (λ t. rw t (fit_two_ends xs))
      (λ t. rw (t, apart x.first x.second, apart x.second x.first) (fit_two_ends xs))

  camera_two_ends : (n : ℕ) (ks : List ℕ) (rest : List Arc) → ((k : ℕ) → In k ks → k < n) → all has_two_ends rest ≡ true →
      all has_two_ends (camera_arcs n p ks rest) ≡ true
  unfolding camera_arcs all
  camera_two_ends n [] rest h e = e
  camera_two_ends n (k ∷ ks) rest h e =
      let ih = camera_two_ends n ks rest (λ z i. h z (inr i)) e in
      let l = h k (inl refl) in
      by_camera p k
      (λ q t. rw (t, ne_eqb (2 * n) (2 * k) (λ z. omega arith), ne_eqb (2 * k + 1) (2 * n + 1) (λ z. omega arith)) ih)
      (λ q t s. rw (t, s, ne_eqb (2 * k + 1) (2 * p k) (λ z. omega arith), ne_eqb (2 * p k + 1) (2 * k) (λ z. omega arith)) ih)
      (λ q t s. rw (t, s) ih)

pub table_two_ends : (n : ℕ) (fs : List Pair) (p : ℕ → ℕ) → all has_two_ends (doubled_table n fs p).arcs ≡ true
table_two_ends n fs p = camera_two_ends p n (below n) (fit_arcs p fs) (λ k m. omega (arith, in_up 0 n k m)) (fit_two_ends p fs)

module _ (n : ℕ) (fs : List Pair) (F : FitsBelow n fs) (p : ℕ → ℕ) (M : Matching fs p) where
  abbrev g : Graph
  g = doubled_table n fs p

  low : (k : ℕ) → p k ≢ k → (k < n) × (p k < n)
  low k h = let r = fits_low n fs F k (p k) (M.fit k h) in (r.0, r.1)

  -- EACH ARC
  fit_arc : (xs : List Pair) → ((x : Pair) → In x xs → In x fs) → (x : Arc) → In x (fit_arcs p xs) → ArcKind n fs p x
  unfolding fit_arcs
  fit_arc [] h x m = absurd m
  fit_arc (y ∷ ys) h x m =
      let ih : In x (fit_arcs p ys) → ArcKind n fs p x = fit_arc ys (λ z k. h z (inr k)) x in
      let f : In y fs = h y (inl refl) in
      by_test (eqb (p y.first) y.second) (λ t. ih (rw t at m))
      (λ t.
      let ne = eqb-false (p y.first) y.second t in
      let k : In x (arc (2 * y.first) (2 * y.second + 1) ∷ arc (2 * y.second) (2 * y.first + 1) ∷ fit_arcs p ys) = rw t at m in
      ⊎_elim (λ e. other_fit y.first y.second (inl f) ne (ap (λ (z : Arc). z.tail) e) (ap (λ (z : Arc). z.head) e))
      (⊎_elim
      (λ e.
      other_fit y.second y.first (inr f) (λ q. ne (ap p (sym q) ∙ M.back y.second)) (ap (λ (z : Arc). z.tail) e)
      (ap (λ (z : Arc). z.head) e)) ih) k)

  camera_arc : (ks : List ℕ) (rest : List Arc) → ((k : ℕ) → In k ks → k < n) → ((x : Arc) → In x rest → ArcKind n fs p x) → (x : Arc) →
      In x (camera_arcs n p ks rest) → ArcKind n fs p x
  unfolding camera_arcs
  camera_arc [] rest h o x m = o x m
  camera_arc (k ∷ ks) rest h o x m =
      let ih : In x (camera_arcs n p ks rest) → ArcKind n fs p x = camera_arc ks rest (λ z i. h z (inr i)) o x in
      let l = h k (inl refl) in
      let tail_of : (y : Arc) → x ≡ y → x.tail ≡ y.tail = λ y e. ap (λ (z : Arc). z.tail) e in
      let head_of : (y : Arc) → x ≡ y → x.head ≡ y.head = λ y e. ap (λ (z : Arc). z.head) e in
      by_camera p k
      (λ q t.
      let z : In x (arc (2 * n) (2 * k) ∷ arc (2 * k + 1) (2 * n + 1) ∷ camera_arcs n p ks rest) = rw t at m in
      ⊎_elim (λ e. from_source k l q (tail_of _ e) (head_of _ e)) (⊎_elim (λ e. to_mate k l q (tail_of _ e) (head_of _ e)) ih) z)
      (λ q t s.
      let z : In x (arc (2 * k + 1) (2 * p k) ∷ arc (2 * p k + 1) (2 * k) ∷ camera_arcs n p ks rest) = rw (t, s) at m in
      let ne : p k ≢ k = λ i. omega arith in
      let b = M.back k in
      let pl = (low k ne).1 in
      ⊎_elim (λ e. lit_fit k l pl ne (tail_of _ e) (head_of _ e))
      (⊎_elim (λ e. lit_fit (p k) pl (omega arith) (λ i. omega arith) (tail_of _ e) (head_of _ e ∙ omega arith)) ih) z)
      (λ q t s. ih (rw (t, s) at m))

  pub arc_kind : (i : ℕ) → i < length g.arcs → ArcKind n fs p (arc_at g i)
  arc_kind i h =
      camera_arc (below n) (fit_arcs p fs) (λ k m. omega (arith, in_up 0 n k m)) (fit_arc fs (λ x m. m)) (arc_at g i) (get_d_in g.arcs no_arc i h)

  -- EACH IS THERE
  rest_in : (ks : List ℕ) (rest : List Arc) (x : Arc) → In x rest → In x (camera_arcs n p ks rest)
  unfolding camera_arcs
  rest_in [] rest x m = m
  rest_in (k ∷ ks) rest x m =
      let ih = rest_in ks rest x m in
      by_camera p k (λ q t. rw t (inr (inr ih))) (λ q t s. rw (t, s) (inr (inr ih))) (λ q t s. rw (t, s) ih)

  source_in : (ks : List ℕ) (rest : List Arc) (k : ℕ) → In k ks → p k ≡ k → In (arc (2 * n) (2 * k)) (camera_arcs n p ks rest)
  unfolding camera_arcs
  source_in [] rest k m e = absurd m
  source_in (j ∷ ks) rest k (inl i) e = rw (← i, eq-eqb (p k) k e) (inl refl)
  source_in (j ∷ ks) rest k (inr m) e =
      let ih = source_in ks rest k m e in
      by_camera p j (λ q t. rw t (inr (inr ih))) (λ q t s. rw (t, s) (inr (inr ih))) (λ q t s. rw (t, s) ih)

  lit_in : (ks : List ℕ) (rest : List Arc) (k : ℕ) → In k ks → k < p k →
      In (arc (2 * k + 1) (2 * p k)) (camera_arcs n p ks rest) × In (arc (2 * p k + 1) (2 * k)) (camera_arcs n p ks rest)
  unfolding camera_arcs
  lit_in [] rest k m e = absurd m
  lit_in (j ∷ ks) rest k (inl i) e = rw (← i, ne_eqb (p k) k (λ z. omega arith), lt-ltb k (p k) e) (inl refl, inr (inl refl))
  lit_in (j ∷ ks) rest k (inr m) e =
      let ih = lit_in ks rest k m e in
      by_camera p j (λ q t. rw t (inr (inr ih.0), inr (inr ih.1))) (λ q t s. rw (t, s) (inr (inr ih.0), inr (inr ih.1)))
      (λ q t s. rw (t, s) ih)

  other_in : (xs : List Pair) (u v : ℕ) → Fits xs u v → p u ≢ v → In (arc (2 * u) (2 * v + 1)) (fit_arcs p xs)
  unfolding fit_arcs
  other_in [] u v (inl m) ne = absurd m
  other_in [] u v (inr m) ne = absurd m
  other_in (x ∷ xs) u v (inl (inl e)) ne =
      let t : eqb (p x.first) x.second ≡ false =
      ne_eqb _ _ (λ q. ne (ap (λ (z : Pair). p z.first) e ∙ q ∙ ap (λ (z : Pair). z.second) (sym e))) in
      rw t (inl (ap (λ (z : Pair). arc (2 * z.first) (2 * z.second + 1)) e))
  other_in (x ∷ xs) u v (inr (inl e)) ne =
      let t : eqb (p x.first) x.second ≡ false =
      ne_eqb _ _ (λ q. ne (ap p (ap (λ (z : Pair). z.second) e ∙ sym q) ∙ M.back x.first ∙ ap (λ (z : Pair). z.first) (sym e))) in
      rw t (inr (inl (ap (λ (z : Pair). arc (2 * z.second) (2 * z.first + 1)) e)))
  other_in (x ∷ xs) u v (inl (inr m)) ne =
      let ih = other_in xs u v (inl m) ne in
      by_test (eqb (p x.first) x.second) (λ t. rw t ih) (λ t. rw t (inr (inr ih)))
  other_in (x ∷ xs) u v (inr (inr m)) ne =
      let ih = other_in xs u v (inr m) ne in
      by_test (eqb (p x.first) x.second) (λ t. rw t ih) (λ t. rw t (inr (inr ih)))

  arc_between : (v w : ℕ) → In (arc v w) g.arcs → ArcBetween g v w
  arc_between v w m =
      let r = in_get_d (arc v w) g.arcs no_arc m in (r.0, r.1, ap (λ (z : Arc). z.tail) r.2, ap (λ (z : Arc). z.head) r.2)

  camera_in : (k : ℕ) → k < n → In k (below n)
  camera_in k h = up_in 0 n k (omega arith) (omega arith)

  pub source_arc : (k : ℕ) → k < n → p k ≡ k → ArcBetween g (2 * n) (2 * k)
  source_arc k h e = arc_between (2 * n) (2 * k) (source_in (below n) (fit_arcs p fs) k (camera_in k h) e)

  pub lit_arc : (k : ℕ) → p k ≢ k → ArcBetween g (2 * k + 1) (2 * p k)
  lit_arc k ne =
      let l = low k ne in
      by_camera p k (λ q t. absurd (ne q)) (λ q t s. arc_between _ _ (lit_in (below n) (fit_arcs p fs) k (camera_in k l.0) q).0)
      (λ q t s.
      let b = M.back k in
      let h = (lit_in (below n) (fit_arcs p fs) (p k) (camera_in (p k) l.1) (omega arith)).1 in
      arc_between (2 * k + 1) (2 * p k) (subst (λ (z : ℕ). In (arc (2 * z + 1) (2 * p k)) g.arcs) b h))

  pub other_arc : (u v : ℕ) → Fits fs u v → p u ≢ v → ArcBetween g (2 * u) (2 * v + 1)
  other_arc u v f ne = arc_between _ _ (rest_in (below n) (fit_arcs p fs) _ (other_in fs u v f ne))

  -- WELL FORMED
  fit_mates : (xs : List Pair) → (mates_fit (fit_arcs p xs) ≡ true) × (length (fit_arcs p xs) % 2 ≡ 0)
  unfolding fit_arcs mates_fit
  fit_mates [] = (refl, refl)
  fit_mates (x ∷ xs) =
      let r = fit_mates xs in
      by_test (eqb (p x.first) x.second) (λ t. rw t r)
      (λ t. rw t (
        mates_cons (arc (2 * x.first) (2 * x.second + 1)) (arc (2 * x.second) (2 * x.first + 1)) (fit_arcs p xs)
            (sym (mate_odd x.second)) (sym (mate_even x.first)) r.0,
        omega (arith, r.1),
      ))

  camera_mates : (ks : List ℕ) (rest : List Arc) → mates_fit rest ≡ true → length rest % 2 ≡ 0 →
      (mates_fit (camera_arcs n p ks rest) ≡ true) × (length (camera_arcs n p ks rest) % 2 ≡ 0)
  unfolding camera_arcs mates_fit
  camera_mates [] rest f e = (f, e)
  camera_mates (k ∷ ks) rest f e =
      let r = camera_mates ks rest f e in
      by_camera p k
      (λ q t. rw t (
        mates_cons (arc (2 * n) (2 * k)) (arc (2 * k + 1) (2 * n + 1)) (camera_arcs n p ks rest) (sym (mate_even k)) (sym (mate_even n)) r.0,
        omega (arith, r.1),
      ))
      (λ q t s. rw (t, s) (
        mates_cons (arc (2 * k + 1) (2 * p k)) (arc (2 * p k + 1) (2 * k)) (camera_arcs n p ks rest) (sym (mate_even (p k))) (sym (mate_odd k)) r.0,
        omega (arith, r.1),
      ))
      (λ q t s. rw (t, s) r)

  pub table_well_formed : WellFormed g
  table_well_formed =
      let f = fit_mates fs in
      let c = camera_mates (below n) (fit_arcs p fs) f.0 f.1 in
      record {
        symmetric = record { mates_fit_lem = c.0; even = c.1 };
        head_node = λ i h. head_low i (arc_kind i h);
        source_node = omega arith;
      }
    where
      head_low : (i : ℕ) → ArcKind n fs p (arc_at g i) → head g i < 2 * suc n
      head_low i (from_source k l e a b) = omega arith
      head_low i (to_mate k l e a b) = omega arith
      head_low i (lit_fit k l pl e a b) = omega arith
      head_low i (other_fit u v f e a b) = omega (arith, (fits_low n fs F u v f).1)
