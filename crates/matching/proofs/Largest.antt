-- A matching whose doubled table has no path is largest, and the reachable nodes are the marks of cameras that have a fit: 2k reachable is 00, only
-- 2k+1 is 01, neither is 02.
--   no_path_largest, no_path_greatest, no_path_pairs     it leaves over no more than any other; it has the greatest number of pairs
--   outer_left, left_outer                               outer cameras are those that some largest pairing leaves over
--   no_path_mark, no_path_marks                          a camera's mark by pairings alone; all marks
--   marks_length                                         marks read off any table of nodes, one for each camera
use mathlib.Core.Path.{◌≡◌, refl, ap, ◌∙◌}
use mathlib.Core.Logic.{inl, inr, ⊎_elim}
use mathlib.Core.Bool.{Bool, true, false}
use mathlib.Core.List.{List, [], ◌∷◌}
use Prim.Native.Nat.{ℕ, suc, ◌+◌, ◌*◌, ◌≤◌, ◌<◌}
use native.Mathlib.Omega.{arith}
use lib.ListN.{length}
use Rattle.counting.specs.Tests.{pick, below}
use Rattle.counting.specs.Lists.{In}
use Rattle.counting.specs.declared.Pair.{Pair}
use Rattle.counting.proofs.Booleans.{by_test, true_false}
use Rattle.counting.proofs.Range.{in_up}
use Rattle.skew.specs.Graph.{is_reachable, has_path}
use Rattle.matching.specs.Stock.{is_included, greatest, left_over, fits_left_over, pairing_mark, mark_of, marks_from, marks_of}
use Rattle.matching.specs.Matching.{FitsBelow, Matching, unlit, partner, lit_fits}
use Rattle.matching.specs.DoubledTable.{doubled_table, is_outer, is_inner, reached_mark, mark_by, marks_by}
use Rattle.matching.specs.Certificate.{Certificate}
use Rattle.matching.proofs.Matchings.{fits_back, fits_low, list_matching, list_count, lit_count}
use Rattle.matching.proofs.Greatest.{greatest_pairing, matching_bound, left_matching, fits_some, some_fits}
use Rattle.matching.proofs.Certificates.{largest, left_is_outer}
use Rattle.matching.proofs.Augmentation.{reachable_left}
use Rattle.matching.proofs.Groups.{group}
use Rattle.matching.proofs.Decomposition.{certificate}

-- MARKS READ OFF A TABLE
pub marks_length : (h f : ℕ → Bool) (ks : List ℕ) → length (marks_by h f ks) ≡ length ks
unfolding marks_by
marks_length h f [] = refl
marks_length h f (k ∷ ks) = ap suc (marks_length h f ks)

module _ (n : ℕ) (fs : List Pair) (F : FitsBelow n fs) where
  module _ (p : ℕ → ℕ) (M : Matching fs p) (no_path : has_path (doubled_table n fs p) ≡ false) where
    abbrev C : Certificate n fs p (is_outer n fs p) (is_inner n fs p) (group n fs F p M no_path)
    C = certificate n fs F p M no_path

    pub no_path_largest : (q : ℕ → ℕ) → Matching fs q → length (unlit n p) ≤ length (unlit n q)
    no_path_largest q Q = largest n fs F p M (is_outer n fs p) (is_inner n fs p) (group n fs F p M no_path) C q Q

    pub no_path_greatest : 2 * greatest fs + length (unlit n p) ≡ n
    no_path_greatest =
        let r = greatest_pairing fs in
        let c = list_count n fs F r.0 r.1.0 in
        let l = no_path_largest (partner r.0) (list_matching n fs F r.0 r.1.0) in
        let e = r.1.1 in
        omega (arith, lit_count n fs F p M, matching_bound n fs F p M)

    pub no_path_pairs : length (lit_fits p fs) ≡ greatest fs
    no_path_pairs = omega (arith, no_path_greatest, lit_count n fs F p M)

    -- MARKS
    pub outer_left : (k : ℕ) → k < n → is_outer n fs p k ≡ true → left_over fs k ≡ true
    outer_left k h e =
        let r = reachable_left n fs F p M k h e in
        let L = r.1 in
        let b = L.count in
        let c = no_path_greatest in
        (left_matching n fs F k).1 (record { partners = r.0; matching = L.matching; largest = omega arith; left = L.left })

    pub left_outer : (k : ℕ) → k < n → left_over fs k ≡ true → is_outer n fs p k ≡ true
    left_outer k h e =
        let L = (left_matching n fs F k).0 e in
        let b = L.largest in
        let c = no_path_greatest in
        left_is_outer n fs F p M (is_outer n fs p) (is_inner n fs p) (group n fs F p M no_path) C L.partners L.matching (omega arith) k h L.left

    pub no_path_mark : (k : ℕ) → k < n →
        pairing_mark fs k ≡ reached_mark (is_reachable (doubled_table n fs p)) k
    no_path_mark k h =
        by_test (is_outer n fs p k) (λ s. rw (s, outer_left k h s))
        (λ s.
        let out : left_over fs k ≡ false = by_test (left_over fs k) (λ t. true_false (left_outer k h t) s) (λ t. t) in
        by_test (is_reachable (doubled_table n fs p) (2 * k + 1))
        (λ t.
        let c = C.inner k h (rw (s, t)) in
        let f = M.fit k c.0 in
        let w : fits_left_over fs k ≡ true = some_fits fs k (p k) f (outer_left (p k) (fits_low n fs F k (p k) f).1 c.1) in
        rw (s, t, out, w))
        (λ t.
        let w : fits_left_over fs k ≡ false = by_test (fits_left_over fs k)
        (λ y.
        let r = fits_some fs k y in
        let v = r.0 in
        let d = left_outer v (fits_low n fs F k v r.1).1 r.2 in
        ⊎_elim (λ z. let b : is_inner n fs p k ≡ false = rw (s, t) in true_false z b) (λ z. true_false z.0 s)
        (C.fits v k (fits_back fs k v r.1) d))
        (λ y. y) in
        rw (s, t, out, w)))

    marks_by_lem : (f : ℕ → Bool) → ((v : ℕ) → v < 2 * suc n → f v ≡ is_reachable (doubled_table n fs p) v) → (ks : List ℕ) → ((k : ℕ) → In k ks → k < n) →
        marks_from fs ks ≡ marks_by (is_included fs) f ks
    unfolding marks_from marks_by
    marks_by_lem f e [] h = refl
    marks_by_lem f e (k ∷ ks) h =
        let l = h k (inl refl) in
        let m : pairing_mark fs k ≡ reached_mark f k = no_path_mark k l ∙ rw (e (2 * k) (omega arith), e (2 * k + 1) (omega arith)) in
        let o : mark_of fs k ≡ mark_by (is_included fs) f k = ap (λ (j : ℕ). pick (is_included fs k) j 3) m in
        rw (o, marks_by_lem f e ks (λ j i. h j (inr i)))

    pub no_path_marks : (f : ℕ → Bool) → ((v : ℕ) → v < 2 * suc n → f v ≡ is_reachable (doubled_table n fs p) v) →
        marks_of n fs ≡ marks_by (is_included fs) f (below n)
    no_path_marks f e = marks_by_lem f e (below n) (λ k m. omega (arith, in_up 0 n k m))
