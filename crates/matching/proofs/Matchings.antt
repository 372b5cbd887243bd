-- A pairing as an involution and as a list of fits: the passage both ways, with the count 2 · pairs + unlit ≡ cameras.
--   fits_back, fits_low                              fitting is mutual, between different cameras below n
--   matching_low, matching_injective                 an involution's partner of a camera
--   unlit_in, in_unlit, unlit_distinct               the cameras left over
--   lights_count                                     2 · pairs + unlit ≡ cameras
--   list_fits, list_named, list_partner, list_matching, list_lights, list_count
--                                                    from a list of pairs
--   lit_in, in_lit, lit_rising, lit_lights, lit_pairing, lit_count
--                                                    to the list of fits that are lit
use mathlib.Core.Path.{◌≡◌, refl, sym, ap, subst, ◌∙◌}
use mathlib.Core.Logic.{inl, inr, ◌≢◌, ⊎_elim}
use mathlib.Core.Bool.{true}
use mathlib.Core.List.{List, [], ◌∷◌, ◌++◌}
use Prim.Native.Nat.{ℕ, ◌+◌, ◌*◌, ◌<◌}
use native.Mathlib.Omega.{arith}
use lib.ListN.{length, length-append}
use borrow.Author.Tests.{eqb-true, eq-eqb, ne_eqb}
use Rattle.counting.specs.Tests.{all, among, below, keep}
use Rattle.counting.specs.Lists.{In, Distinct}
use Rattle.counting.specs.Pairs.{pair, ends}
use Rattle.counting.specs.declared.Pair.{Pair}
use Rattle.counting.proofs.Booleans.{and_two, and_both, by_test, true_false, same_or}
use Rattle.counting.proofs.Membership.{in_left, in_right, in_append, all_each, each_all, among_in, in_among}
use Rattle.counting.proofs.NoRepeats.{distinct_append}
use Rattle.counting.proofs.Kept.{in_keep, keep_in, keep_distinct}
use Rattle.counting.proofs.Pigeonhole.{distinct_within}
use Rattle.counting.proofs.Range.{up_in, in_up, length_up, distinct_up}
use Rattle.matching.specs.Stock.{has_pair, none_shared, is_pairing}
use Rattle.matching.specs.Pairs.{EndOf, Rising}
use Rattle.matching.specs.Matching.{FitsBelow, Fits, Matching, is_unlit, unlit, Lights, partner, is_lit, lit_fits}
use Rattle.matching.proofs.Pairs.{same_pair_lem, has_pair_in, in_has_pair, in_ends, ends_in, length_ends, shared_distinct, distinct_shared}
use Rattle.matching.proofs.Rising.{rising_ordered, keep_rising}

pub fits_back : (fs : List Pair) (u v : ℕ) → Fits fs u v → Fits fs v u
fits_back fs u v (inl m) = inr m
fits_back fs u v (inr m) = inl m

pub fits_low : (n : ℕ) (fs : List Pair) → FitsBelow n fs → (u v : ℕ) → Fits fs u v → (u < n) × (v < n) × (u ≢ v)
fits_low n fs F u v (inl m) =
    let a = rising_ordered fs F.rising (pair u v) m in let b = F.named (pair u v) m in (omega arith, omega arith, λ e. omega arith)
fits_low n fs F u v (inr m) =
    let a = rising_ordered fs F.rising (pair v u) m in let b = F.named (pair v u) m in (omega arith, omega arith, λ e. omega arith)

pub matching_low : (n : ℕ) (fs : List Pair) → FitsBelow n fs → (p : ℕ → ℕ) → Matching fs p → (k : ℕ) → k < n → p k < n
matching_low n fs F p M k h = ⊎_elim (λ e. omega arith) (λ e. (fits_low n fs F k (p k) (M.fit k e)).1) (same_or (p k) k)

pub matching_injective : (fs : List Pair) (p : ℕ → ℕ) → Matching fs p → (x y : ℕ) → p x ≡ p y → x ≡ y
matching_injective fs p M x y e = sym (M.back x) ∙ ap p e ∙ M.back y

-- LEFT OVER
module _ (n : ℕ) (p : ℕ → ℕ) where
  pub unlit_in : (k : ℕ) → k < n → p k ≡ k → In k (unlit n p)
  unfolding unlit
  unlit_in k h e = keep_in (is_unlit p) (below n) k (up_in 0 n k (omega arith) (omega arith)) (eq-eqb _ _ e)

  pub in_unlit : (k : ℕ) → In k (unlit n p) → (k < n) × (p k ≡ k)
  unfolding unlit
  in_unlit k m = let r = in_keep (is_unlit p) (below n) k m in (omega (arith, in_up 0 n k r.0), eqb-true _ _ r.1)

  pub unlit_distinct : Distinct (unlit n p)
  unfolding unlit
  unlit_distinct = keep_distinct (is_unlit p) (below n) (distinct_up 0 n)

  pub lights_count : (ps : List Pair) → Lights n ps p → 2 * length ps + length (unlit n p) ≡ n
  lights_count ps L =
      let xs = ends ps ++ unlit n p in
      let d : Distinct xs =
      distinct_append (ends ps) (unlit n p) L.once unlit_distinct (λ x m k. (L.lit x m).1 (in_unlit x k).1) in
      let up = distinct_within xs (below n) d
      (λ x m. up_in 0 n x (omega arith)
      (⊎_elim (λ k. omega (arith, (L.lit x k).0)) (λ k. omega (arith, (in_unlit x k).0)) (in_append x (ends ps) (unlit n p) m))) in
      let down = distinct_within (below n) xs (distinct_up 0 n)
      (λ x m. ⊎_elim (λ e. in_right x (ends ps) (unlit n p) (unlit_in x (omega (arith, in_up 0 n x m)) e))
      (λ e. in_left x (ends ps) (unlit n p) (L.all x e)) (same_or (p x) x)) in
      omega (arith, length-append (ends ps) (unlit n p), length_ends ps, length_up 0 n, up, down)

-- FROM A LIST
partner_out : (ps : List Pair) (k : ℕ) → (In k (ends ps) → ⊥) → partner ps k ≡ k
unfolding partner ends
partner_out [] k h = refl
partner_out (x ∷ xs) k h =
    rw (ne_eqb k x.first (λ e. h (inl e)), ne_eqb k x.second (λ e. h (inr (inl e)))) (partner_out xs k (λ m. h (inr (inr m))))

partner_of : (ps : List Pair) → Distinct (ends ps) → (x : Pair) → In x ps → (partner ps x.first ≡ x.second) × (partner ps x.second ≡ x.first)
unfolding partner ends
partner_of [] d x m = absurd m
partner_of (y ∷ ys) d x (inl e) = rw e (
  rw (eq-eqb y.first y.first refl),
  rw (ne_eqb y.second y.first (λ q. d.0 (inl (sym q))), eq-eqb y.second y.second refl),
)
partner_of (y ∷ ys) d x (inr m) =
    let r = partner_of ys d.1.1 x m in
    let out₁ : (k : ℕ) → EndOf x k → k ≢ y.first = λ k z q. d.0 (inr (subst (λ (w : ℕ). In w (ends ys)) q (in_ends ys x k m z))) in
    let out₂ : (k : ℕ) → EndOf x k → k ≢ y.second = λ k z q. d.1.0 (subst (λ (w : ℕ). In w (ends ys)) q (in_ends ys x k m z)) in (
      rw (ne_eqb x.first y.first (out₁ x.first (inl refl)), ne_eqb x.first y.second (out₂ x.first (inl refl))) r.0,
      rw (ne_eqb x.second y.first (out₁ x.second (inr refl)), ne_eqb x.second y.second (out₂ x.second (inr refl))) r.1,
    )

module _ (n : ℕ) (fs : List Pair) (F : FitsBelow n fs) where
  module _ (ps : List Pair) (e : is_pairing fs ps ≡ true) where
    pub list_fits : (x : Pair) → In x ps → In x fs
    list_fits x m = has_pair_in fs x (all_each (has_pair fs) ps (and_two (all (has_pair fs) ps) (none_shared ps) e).0 x m)

    pub list_named : (x : Pair) → In x ps → (x.first < x.second) × (x.second < n)
    list_named x m = let f = list_fits x m in (rising_ordered fs F.rising x f, F.named x f)

    list_once : Distinct (ends ps)
    list_once =
        shared_distinct ps (λ x m q. omega (arith, rising_ordered fs F.rising x (list_fits x m))) (and_two (all (has_pair fs) ps) (none_shared ps) e).1

    pub list_partner : (x : Pair) → In x ps → (partner ps x.first ≡ x.second) × (partner ps x.second ≡ x.first)
    list_partner = partner_of ps list_once

    end_fits : (k : ℕ) → In k (ends ps) → Fits fs k (partner ps k) × (partner ps (partner ps k) ≡ k)
    end_fits k m =
        let r = ends_in ps k m in
        let x = r.0 in
        let o = list_partner x r.1 in
        ⊎_elim
        (λ q.
        let a : partner ps k ≡ x.second = ap (partner ps) q ∙ o.0 in (
          inl (subst (λ (y : Pair). In y fs) (same_pair_lem x (pair k (partner ps k)) (sym q) (sym a)) (list_fits x r.1)),
          ap (partner ps) a ∙ o.1 ∙ sym q,
        ))
        (λ q.
        let a : partner ps k ≡ x.first = ap (partner ps) q ∙ o.1 in (
          inr (subst (λ (y : Pair). In y fs) (same_pair_lem x (pair (partner ps k) k) (sym a) (sym q)) (list_fits x r.1)),
          ap (partner ps) a ∙ o.0 ∙ sym q,
        ))
        r.2

    by_end : {C : Type 0} (k : ℕ) → (In k (ends ps) → C) → (partner ps k ≡ k → C) → C
    by_end k f h =
        by_test (among k (ends ps)) (λ t. f (among_in k (ends ps) t)) (λ t. h (partner_out ps k (λ m. true_false (in_among k (ends ps) m) t)))

    pub list_matching : Matching fs (partner ps)
    list_matching =
        record {
          back = λ k. by_end k (λ m. (end_fits k m).1) (λ q. ap (partner ps) q ∙ q);
          fit = λ k h. by_end k (λ m. (end_fits k m).0) (λ q. absurd (h q));
        }

    pub list_lights : Lights n ps (partner ps)
    list_lights =
        record {
          once = list_once;
          lit = λ k m. let r = fits_low n fs F k (partner ps k) (end_fits k m).0 in (r.0, λ q. r.2 (sym q));
          all = λ k h. by_end k (λ m. m) (λ q. absurd (h q));
        }

    pub list_count : 2 * length ps + length (unlit n (partner ps)) ≡ n
    list_count = lights_count n (partner ps) ps list_lights

  -- TO A LIST, in the order of the fits
  module _ (p : ℕ → ℕ) (M : Matching fs p) where
    pub lit_rising : Rising (lit_fits p fs)
    unfolding lit_fits
    lit_rising = keep_rising (is_lit p) fs F.rising

    pub lit_in : (u v : ℕ) → In (pair u v) fs → p u ≡ v → In (pair u v) (lit_fits p fs)
    unfolding lit_fits
    lit_in u v m e = keep_in (is_lit p) fs (pair u v) m (eq-eqb _ _ e)

    pub in_lit : (x : Pair) → In x (lit_fits p fs) → In x fs × (p x.first ≡ x.second) × (p x.second ≡ x.first)
    unfolding lit_fits
    in_lit x m =
        let r = in_keep (is_lit p) fs x m in let e = eqb-true (p x.first) x.second r.1 in (r.0, e, ap p (sym e) ∙ M.back x.first)

    -- two lit fits with a camera in common are one
    lit_once : (xs : List Pair) → Rising xs → Distinct (ends (keep (is_lit p) xs))
    unfolding keep ends
    lit_once [] r = tt
    lit_once (x ∷ xs) r =
        by_test (is_lit p x)
        (λ t.
        let q : p x.first ≡ x.second = eqb-true _ _ t in
        let q' : p x.second ≡ x.first = ap p (sym q) ∙ M.back x.first in
        let out : (k : ℕ) → EndOf x k → In k (ends (keep (is_lit p) xs)) → ⊥ = λ k z m.
        let f = ends_in (keep (is_lit p) xs) k m in
        let y = f.0 in
        let g = in_keep (is_lit p) xs y f.1 in
        let s : p y.first ≡ y.second = eqb-true _ _ g.1 in
        let s' : p y.second ≡ y.first = ap p (sym s) ∙ M.back y.first in
        let o = rising_ordered xs r.2 y g.0 in
        let low = r.0 in
        let same : (x.first ≡ y.first) → (x.second ≡ y.second) → ⊥ = λ i j. ⊎_elim (λ c. omega arith) (λ c. omega (arith, c.1)) (r.1 y g.0) in
        ⊎_elim
        (λ i.
        ⊎_elim (λ j. same (sym i ∙ j) (sym q ∙ ap p (sym i ∙ j) ∙ s))
        (λ j. let w : x.second ≡ y.first = sym q ∙ ap p (sym i ∙ j) ∙ s' in omega arith) f.2)
        (λ i.
        ⊎_elim (λ j. let w : x.first ≡ y.second = sym q' ∙ ap p (sym i ∙ j) ∙ s in omega arith)
        (λ j. same (sym q' ∙ ap p (sym i ∙ j) ∙ s') (sym i ∙ j)) f.2) z in
        rw t (⊎_elim (λ z. omega (arith, r.0)) (out x.first (inl refl)), (out x.second (inr refl), lit_once xs r.2)))
        (λ t. rw t (lit_once xs r.2))

    pub lit_lights : Lights n (lit_fits p fs) p
    unfolding lit_fits
    lit_lights =
        record {
          once = lit_once fs F.rising;
          lit = λ k m.
              let f = ends_in (lit_fits p fs) k m in
              let x = f.0 in
              let g = in_lit x f.1 in
              let o = rising_ordered fs F.rising x g.0 in
              let l = F.named x g.0 in
              ⊎_elim (λ i. let w : p k ≡ x.second = ap p i ∙ g.1 in (omega arith, λ z. omega arith))
              (λ i. let w : p k ≡ x.first = ap p i ∙ g.2 in (omega arith, λ z. omega arith)) f.2;
          all = λ k h.
              ⊎_elim (λ m. in_ends (lit_fits p fs) (pair k (p k)) k (lit_in k (p k) m refl) (inl refl))
              (λ m. in_ends (lit_fits p fs) (pair (p k) k) k (lit_in (p k) k m (M.back k)) (inr refl)) (M.fit k h);
        }

    pub lit_pairing : is_pairing fs (lit_fits p fs) ≡ true
    lit_pairing =
        and_both _ _ (each_all (has_pair fs) (lit_fits p fs) (λ x m. in_has_pair fs x (in_lit x m).0)) (distinct_shared (lit_fits p fs) lit_lights.once)

    pub lit_count : 2 * length (lit_fits p fs) + length (unlit n p) ≡ n
    lit_count = lights_count n p (lit_fits p fs) lit_lights
