-- All pairings of the fits are tried: `greatest` bounds every pairing in whatever order, and is one's length; `left_over` is told by largest pairings,
-- as lists or as involutions.
--   tried_pairing, kept_tried               what is tried is a pairing; every pairing in the order of the fits is tried
--   matching_bound, greatest_bound          no pairing has more pairs
--   greatest_pairing                        some pairing has as many
--   left_over_lem, left_matching            left_over: some largest pairing leaves the camera over
--   fits_some, some_fits                    fits_left_over: it fits such a camera
use mathlib.Core.Path.{◌≡◌, refl, sym, subst}
use mathlib.Core.Logic.{inl, inr, ⊎_elim, ◌↔◌}
use mathlib.Core.Bool.{Bool, true, false, ◌&&◌, ◌||◌, not}
use mathlib.Core.List.{List, [], ◌∷◌}
use Prim.Native.Nat.{ℕ, ◌+◌, ◌*◌, ◌≤◌, ◌<◌}
use native.Mathlib.Omega.{arith}
use lib.Dec.{ltb, eqb}
use lib.ListN.{length}
use borrow.Author.Tests.{eqb-true, eq-eqb, ltb-true, ltb-false, not-true}
use Rattle.counting.specs.Tests.{all, any, keep}
use Rattle.counting.specs.Lists.{In}
use Rattle.counting.specs.Pairs.{pair}
use Rattle.counting.specs.declared.Pair.{Pair}
use Rattle.counting.proofs.Booleans.{and_two, and_both, or_right, or_cases, by_test, true_false, same_or}
use Rattle.counting.proofs.Membership.{in_left, in_right, in_append, any_some, some_any, all_each, each_all}
use Rattle.matching.specs.Stock.{same_pair, has_pair, is_included, meets, none_shared, is_pairing, with_first, all_pairings, most_of, greatest, left_over, fits_left_over}
use Rattle.matching.specs.Matching.{FitsBelow, Fits, Matching, unlit, partner, is_lit, lit_fits}
use Rattle.matching.specs.Promise.{LeftBySome}
use Rattle.matching.proofs.Pairs.{same_pair_lem, in_has_pair, included_end, end_included}
use Rattle.matching.proofs.Matchings.{list_matching, list_lights, list_count, lit_lights, lit_pairing, lit_count}

-- WHAT IS TRIED is a pairing
in_first : (x : Pair) (ls : List (List Pair)) (qs : List Pair) → In qs (with_first x ls) →
    (ps : List Pair) × In ps ls × (any (meets x) ps ≡ false) × (qs ≡ x ∷ ps)
unfolding with_first
in_first x [] qs m = absurd m
in_first x (l ∷ ls) qs m =
    let ih : In qs (with_first x ls) → (ps : List Pair) × In ps (l ∷ ls) × (any (meets x) ps ≡ false) × (qs ≡ x ∷ ps) =
    λ k. let r = in_first x ls qs k in (r.0, inr r.1, r.2, r.3) in
    by_test (any (meets x) l) (λ t. ih (rw t at m))
    (λ t. let k : In qs ((x ∷ l) ∷ with_first x ls) = rw t at m in ⊎_elim (λ q. (l, inl refl, t, q)) ih k)

first_in : (x : Pair) (ls : List (List Pair)) (ps : List Pair) → In ps ls → any (meets x) ps ≡ false → In (x ∷ ps) (with_first x ls)
unfolding with_first
first_in x [] ps m t = absurd m
first_in x (l ∷ ls) ps (inl e) t = rw (← e, t) (inl refl)
first_in x (l ∷ ls) ps (inr m) t = by_test (any (meets x) l) (λ s. rw s (first_in x ls ps m t)) (λ s. rw s (inr (first_in x ls ps m t)))

pub tried_pairing : (fs qs : List Pair) → In qs (all_pairings fs) → is_pairing fs qs ≡ true
unfolding all_pairings all none_shared has_pair
tried_pairing [] qs (inl e) = rw e (empty [])
  where
    empty : (fs : List Pair) → is_pairing fs [] ≡ true
    empty fs = refl
tried_pairing [] qs (inr b) = absurd b
tried_pairing (x ∷ xs) qs m =
    ⊎_elim (taken (tried_pairing xs)) (λ k. wider qs (tried_pairing xs qs k)) (in_append qs (with_first x (all_pairings xs)) (all_pairings xs) m)
  where
    wider : (ps : List Pair) → is_pairing xs ps ≡ true → is_pairing (x ∷ xs) ps ≡ true
    wider ps e =
        let r = and_two (all (has_pair xs) ps) (none_shared ps) e in
        and_both _ _ (each_all (has_pair (x ∷ xs)) ps (λ y k. or_right (same_pair y x) (has_pair xs y) (all_each (has_pair xs) ps r.0 y k))) r.1

    taken : ((ps : List Pair) → In ps (all_pairings xs) → is_pairing xs ps ≡ true) → In qs (with_first x (all_pairings xs)) → is_pairing (x ∷ xs) qs ≡ true
    taken ih k =
        let r = in_first x (all_pairings xs) qs k in
        let ps = r.0 in
        let w = and_two (all (has_pair (x ∷ xs)) ps) (none_shared ps) (wider ps (ih ps r.1)) in
        let s : none_shared (x ∷ ps) ≡ true = rw r.2 w.1 in
        rw r.3 (and_both _ _ (and_both _ _ (in_has_pair (x ∷ xs) x (inl refl)) w.0) s)

pub kept_tried : (f : Pair → Bool) (fs : List Pair) → none_shared (keep f fs) ≡ true → In (keep f fs) (all_pairings fs)
unfolding keep all_pairings none_shared
kept_tried f [] e = inl refl
kept_tried f (x ∷ xs) e =
    by_test (f x)
    (λ t.
    let s : none_shared (x ∷ keep f xs) ≡ true = rw t at e in
    let r = and_two (not (any (meets x) (keep f xs))) (none_shared (keep f xs)) s in
    rw t
    (in_left _ (with_first x (all_pairings xs)) (all_pairings xs)
    (first_in x (all_pairings xs) (keep f xs) (kept_tried f xs r.1) (not-true _ r.0))))
    (λ t. rw t (in_right _ (with_first x (all_pairings xs)) (all_pairings xs) (kept_tried f xs (rw t at e))))

-- THE MOST
most_bound : (ls : List (List Pair)) (ps : List Pair) → In ps ls → length ps ≤ most_of ls
unfolding most_of
most_bound [] ps m = absurd m
most_bound (l ∷ ls) ps m =
    by_test (ltb (most_of ls) (length l))
    (λ t. let h = ltb-true (most_of ls) (length l) t in rw t (⊎_elim (λ e. rw e (omega arith)) (λ k. omega (arith, most_bound ls ps k)) m))
    (λ t. let h = ltb-false (most_of ls) (length l) t in rw t (⊎_elim (λ e. rw e (omega arith)) (λ k. omega (arith, most_bound ls ps k)) m))

most_attained : (ls : List (List Pair)) → 0 < most_of ls → (ps : List Pair) × In ps ls × (length ps ≡ most_of ls)
unfolding most_of
most_attained [] h = absurd (omega arith)
most_attained (l ∷ ls) h =
    by_test (ltb (most_of ls) (length l)) (λ t. rw t (l, inl refl, refl))
    (λ t. rw t (let r = most_attained ls (rw t at h) in (r.0, inr r.1, r.2)))

empty_tried : (fs : List Pair) → In [] (all_pairings fs)
unfolding all_pairings
empty_tried [] = inl refl
empty_tried (x ∷ xs) = in_right [] (with_first x (all_pairings xs)) (all_pairings xs) (empty_tried xs)

pub greatest_pairing : (fs : List Pair) → (ps : List Pair) × ((is_pairing fs ps ≡ true) × (length ps ≡ greatest fs))
greatest_pairing fs =
    ⊎_elim (λ e. ([], (tried_pairing fs [] (empty_tried fs), sym e)))
    (λ e. let r = most_attained (all_pairings fs) (omega arith) in (r.0, (tried_pairing fs r.0 r.1, r.2))) (same_or (greatest fs) 0)

module _ (n : ℕ) (fs : List Pair) (F : FitsBelow n fs) where
  -- an involution's pairs are among those tried
  matching_tried : (p : ℕ → ℕ) (M : Matching fs p) → In (lit_fits p fs) (all_pairings fs)
  unfolding lit_fits
  matching_tried p M =
      kept_tried (is_lit p) fs (and_two (all (has_pair fs) (lit_fits p fs)) (none_shared (lit_fits p fs)) (lit_pairing n fs F p M)).1

  pub matching_bound : (p : ℕ → ℕ) (M : Matching fs p) → length (lit_fits p fs) ≤ greatest fs
  matching_bound p M = most_bound (all_pairings fs) (lit_fits p fs) (matching_tried p M)

  pub greatest_bound : (ps : List Pair) → is_pairing fs ps ≡ true → length ps ≤ greatest fs
  greatest_bound ps e =
      let M = list_matching n fs F ps e in
      omega (arith, list_count n fs F ps e, lit_count n fs F (partner ps) M, matching_bound (partner ps) M)

  -- LEFT OVER by some largest pairing
  pub record LeftByMatching (k : ℕ) : Type 0 where
    pub partners : ℕ → ℕ
    pub matching : Matching fs partners
    pub largest : 2 * greatest fs + length (unlit n partners) ≡ n
    pub left : partners k ≡ k

  list_left : (k : ℕ) → LeftBySome fs k → LeftByMatching k
  list_left k r =
      let ps = r.0 in
      let L = list_lights n fs F ps r.1.0 in
      record {
        partners = partner ps;
        matching = list_matching n fs F ps r.1.0;
        largest = rw (← r.1.1) (list_count n fs F ps r.1.0);
        left = ⊎_elim (λ e. e) (λ e. true_false (end_included ps k (L.all k e)) r.1.2) (same_or (partner ps k) k);
      }

  left_tried : (k : ℕ) → LeftByMatching k → left_over fs k ≡ true
  left_tried k r =
      let p = r.partners in
      let M = r.matching in
      let ps = lit_fits p fs in
      let c = lit_count n fs F p M in
      let g = r.largest in
      let out : is_included ps k ≡ false =
      by_test (is_included ps k) (λ t. absurd (((lit_lights n fs F p M).lit k (included_end ps k t)).1 r.left)) (λ t. t) in
      some_any (λ (qs : List Pair). eqb (length qs) (greatest fs) && not (is_included qs k)) ps (all_pairings fs) (matching_tried p M)
      (and_both _ _ (eq-eqb (length ps) (greatest fs) (omega arith)) (rw out))

  tried_left : (k : ℕ) → left_over fs k ≡ true → LeftBySome fs k
  tried_left k e =
      let r = any_some (λ (qs : List Pair). eqb (length qs) (greatest fs) && not (is_included qs k)) (all_pairings fs) e in
      let s = and_two (eqb (length r.0) (greatest fs)) (not (is_included r.0 k)) r.2 in
      (r.0, (tried_pairing fs r.0 r.1, eqb-true _ _ s.0, not-true _ s.1))

  pub left_over_lem : (k : ℕ) → (left_over fs k ≡ true) ↔ LeftBySome fs k
  left_over_lem k = (tried_left k, λ r. left_tried k (list_left k r))

  pub left_matching : (k : ℕ) → (left_over fs k ≡ true) ↔ LeftByMatching k
  left_matching k = (λ e. list_left k (tried_left k e), left_tried k)

-- FITS one that is left over
module _ (fs : List Pair) where
  abbrev fits_left : ℕ → Pair → Bool
  fits_left k x = (eqb x.first k && left_over fs x.second) || (eqb x.second k && left_over fs x.first)

  pub fits_some : (k : ℕ) → fits_left_over fs k ≡ true → (v : ℕ) × Fits fs k v × (left_over fs v ≡ true)
  fits_some k e =
      let r = any_some (fits_left k) fs e in
      let x = r.0 in
      ⊎_elim
      (λ t. let s = and_two (eqb x.first k) (left_over fs x.second) t in
      (x.second, inl (subst (λ (y : Pair). In y fs) (same_pair_lem x (pair k x.second) (eqb-true _ _ s.0) refl) r.1), s.1))
      (λ t. let s = and_two (eqb x.second k) (left_over fs x.first) t in
      (x.first, inr (subst (λ (y : Pair). In y fs) (same_pair_lem x (pair x.first k) refl (eqb-true _ _ s.0)) r.1), s.1))
      (or_cases (eqb x.first k && left_over fs x.second) (eqb x.second k && left_over fs x.first) r.2)

  pub some_fits : (k v : ℕ) → Fits fs k v → left_over fs v ≡ true → fits_left_over fs k ≡ true
  some_fits k v (inl m) e =
      some_any (fits_left k) (pair k v) fs m (let a : (eqb k k && left_over fs v) ≡ true = and_both _ _ (eq-eqb k k refl) e in rw a)
  some_fits k v (inr m) e =
      some_any (fits_left k) (pair v k) fs m (or_right (eqb v k && left_over fs k) _ (and_both _ _ (eq-eqb k k refl) e))
