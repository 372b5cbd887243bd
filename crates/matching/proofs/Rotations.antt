-- One rotation of a matching.
--   rotate_first, _second, _third, _other     the partner of u, of v, of v's old partner, of any other camera
--   rotate_matching                           the result is a matching
--   rotate_unlit                              what it leaves over
--   rotate_moves                              if v was lit, as many cameras are left over
--   rotate_gains                              if v was unlit, two fewer are
use mathlib.Core.Path.{◌≡◌, refl, sym, ap, subst, ◌∙◌}
use mathlib.Core.Logic.{◌⊎◌, inl, inr, ◌≢◌, ⊎_elim}
use mathlib.Core.List.{List, ◌∷◌}
use Prim.Native.Nat.{ℕ, ◌+◌}
use native.Mathlib.Omega.{arith}
use lib.Dec.{eqb}
use lib.ListN.{length}
use borrow.Author.Tests.{eq-eqb, ne_eqb}
use Rattle.counting.specs.Tests.{pick}
use Rattle.counting.specs.Lists.{In, InjectiveOn}
use Rattle.counting.specs.declared.Pair.{Pair}
use Rattle.counting.proofs.Booleans.{same_or}
use Rattle.counting.proofs.Pigeonhole.{distinct_within, injection}
use Rattle.matching.specs.Matching.{FitsBelow, Fits, Matching, unlit}
use Rattle.matching.specs.Rotation.{rotate}
use Rattle.matching.proofs.Matchings.{fits_back, fits_low, matching_injective, unlit_in, in_unlit, unlit_distinct}

-- y in the place of x
replace : (x y k : ℕ) → ℕ
replace x y k = pick (eqb k x) y k

replace_same : (x y k : ℕ) → k ≡ x → replace x y k ≡ y
unfolding replace
replace_same x y k e = rw (eq-eqb k x e)

replace_other : (x y k : ℕ) → k ≢ x → replace x y k ≡ k
unfolding replace
replace_other x y k e = rw (ne_eqb k x e)

replace_injective : (x y : ℕ) (ks : List ℕ) → (In y ks → ⊥) → InjectiveOn (replace x y) ks
replace_injective x y ks out i j a b e =
    let clash : (h k : ℕ) → In k ks → h ≡ x → k ≢ x → replace x y h ≡ replace x y k → ⊥ = λ h k m c d z.
    out (subst (λ (w : ℕ). In w ks) (sym (replace_other x y k d) ∙ sym z ∙ replace_same x y h c) m) in
    ⊎_elim (λ c. ⊎_elim (λ d. c ∙ sym d) (λ d. absurd (clash i j b c d e)) (same_or j x))
    (λ c. ⊎_elim (λ d. absurd (clash j i a d c (sym e))) (λ d. sym (replace_other x y i c) ∙ e ∙ replace_other x y j d) (same_or j x))
    (same_or i x)

module _ (n : ℕ) (fs : List Pair) (F : FitsBelow n fs) (q : ℕ → ℕ) (M : Matching fs q) (u v : ℕ) (free : q u ≡ u) (f : Fits fs u v) where
  abbrev rotated : ℕ → ℕ
  rotated = rotate q u v

  apart : u ≢ v
  apart = (fits_low n fs F u v f).2

  by_place : {C : Type 0} (k : ℕ) → (k ≡ u → C) → (k ≢ u → k ≡ v → C) → (k ≢ u → k ≢ v → k ≡ q v → C) → (k ≢ u → k ≢ v → k ≢ q v → C) → C
  by_place k a b c d = ⊎_elim a (λ i. ⊎_elim (b i) (λ j. ⊎_elim (c i j) (d i j) (same_or k (q v))) (same_or k v)) (same_or k u)

  pub rotate_first : (k : ℕ) → k ≡ u → rotate q u v k ≡ v
  unfolding rotate
  rotate_first k e = rw (eq-eqb k u e)

  pub rotate_second : (k : ℕ) → k ≡ v → rotate q u v k ≡ u
  unfolding rotate
  rotate_second k e = rw (ne_eqb k u (λ z. apart (sym z ∙ e)), eq-eqb k v e)

  pub rotate_third : (k : ℕ) → k ≢ u → k ≢ v → k ≡ q v → rotate q u v k ≡ k
  unfolding rotate
  rotate_third k a b e = rw (ne_eqb k u a, ne_eqb k v b, eq-eqb k (q v) e)

  pub rotate_other : (k : ℕ) → k ≢ u → k ≢ v → k ≢ q v → rotate q u v k ≡ q k
  unfolding rotate
  rotate_other k a b c = rw (ne_eqb k u a, ne_eqb k v b, ne_eqb k (q v) c)

  rotate_back : (k : ℕ) → rotated (rotated k) ≡ k
  rotate_back k =
      by_place k (λ e. rotate_second (rotated k) (rotate_first k e) ∙ sym e) (λ a e. rotate_first (rotated k) (rotate_second k e) ∙ sym e)
      (λ a b e. let t = rotate_third k a b e in ap rotated t ∙ t)
      (λ a b c.
      ap rotated (rotate_other k a b c) ∙
      rotate_other (q k) (λ e. a (sym (M.back k) ∙ ap q e ∙ free)) (λ e. c (sym (M.back k) ∙ ap q e)) (λ e. b (matching_injective fs q M k v e)) ∙
      M.back k)

  pub rotate_matching : Matching fs rotated
  rotate_matching =
      record {
        back = rotate_back;
        fit = λ k ne.
            by_place k (λ e. let t = rotate_first k e in rw (t, e) f) (λ a e. let t = rotate_second k e in rw (t, e) (fits_back fs u v f))
            (λ a b e. absurd (ne (rotate_third k a b e)))
            (λ a b c. let t = rotate_other k a b c in rw t (M.fit k (λ e. ne (t ∙ e))));
      }

  pub rotate_unlit : (k : ℕ) → rotated k ≡ k → (k ≢ u) × (k ≢ v) × ((k ≡ q v) ⊎ (q k ≡ k))
  rotate_unlit k e =
      by_place k (λ a. absurd (apart (sym a ∙ sym e ∙ rotate_first k a))) (λ a b. absurd (a (sym e ∙ rotate_second k b)))
      (λ a b c. (a, b, inl c)) (λ a b c. (a, b, inr (sym (rotate_other k a b c) ∙ e)))

  -- v's old partner is left over in the place of u
  pub rotate_moves : q v ≢ v → length (unlit n rotated) ≡ length (unlit n q)
  rotate_moves ne =
      let a =
      injection (replace (q v) u) (unlit n rotated) (unlit n q) (unlit_distinct n rotated)
      (replace_injective (q v) u (unlit n rotated) (λ m. (rotate_unlit u (in_unlit n rotated u m).1).0 refl)) back_in in
      let b =
      injection (replace u (q v)) (unlit n q) (unlit n rotated) (unlit_distinct n q)
      (replace_injective u (q v) (unlit n q) (λ m. ne (sym (in_unlit n q (q v) m).1 ∙ M.back v))) there_in in
      omega arith
    where
      back_in : (x : ℕ) → In x (unlit n rotated) → In (replace (q v) u x) (unlit n q)
      back_in x a =
          let h = in_unlit n rotated x a in
          let r = rotate_unlit x h.1 in
          ⊎_elim (λ i. subst (λ (z : ℕ). In z (unlit n q)) (sym (replace_same (q v) u x i)) (unlit_in n q u (fits_low n fs F u v f).0 free))
          (λ i.
          subst (λ (z : ℕ). In z (unlit n q)) (sym (replace_other (q v) u x i)) (unlit_in n q x h.0 (⊎_elim (λ z. absurd (i z)) (λ z. z) r.2)))
          (same_or x (q v))

      there_in : (x : ℕ) → In x (unlit n q) → In (replace u (q v) x) (unlit n rotated)
      there_in x a =
          let h = in_unlit n q x a in
          ⊎_elim
          (λ i.
          subst (λ (z : ℕ). In z (unlit n rotated)) (sym (replace_same u (q v) x i))
          (unlit_in n rotated (q v) (fits_low n fs F v (q v) (M.fit v ne)).1
          (rotate_third (q v) (λ z. apart (sym free ∙ ap q (sym z) ∙ M.back v)) ne refl)))
          (λ i.
          let xv : x ≢ v = λ z. ne (ap q (sym z) ∙ h.1 ∙ z) in
          let xw : x ≢ q v = λ z. xv (sym h.1 ∙ ap q z ∙ M.back v) in
          subst (λ (z : ℕ). In z (unlit n rotated)) (sym (replace_other u (q v) x i)) (unlit_in n rotated x h.0 (rotate_other x i xv xw ∙ h.1)))
          (same_or x u)

  pub rotate_gains : q v ≡ v → length (unlit n rotated) + 2 ≡ length (unlit n q)
  rotate_gains e =
      let l = fits_low n fs F u v f in
      let old : (k : ℕ) → In k (unlit n rotated) → (k ≢ u) × (k ≢ v) × In k (unlit n q) = λ k m.
      let h = in_unlit n rotated k m in
      let r = rotate_unlit k h.1 in
      (r.0, r.1, unlit_in n q k h.0 (⊎_elim (λ z. absurd (r.1 (z ∙ e))) (λ z. z) r.2)) in
      let w = distinct_within (u ∷ v ∷ unlit n rotated) (unlit n q)
      (⊎_elim apart (λ m. (old u m).0 refl), (λ m. (old v m).1 refl, unlit_distinct n rotated))
      (λ k. ⊎_elim (λ z. subst (λ (y : ℕ). In y (unlit n q)) (sym z) (unlit_in n q u l.0 free))
      (⊎_elim (λ z. subst (λ (y : ℕ). In y (unlit n q)) (sym z) (unlit_in n q v l.1 e)) (λ m. (old k m).2))) in
      let x = distinct_within (unlit n q) (u ∷ v ∷ unlit n rotated) (unlit_distinct n q)
      (λ k m.
      let h = in_unlit n q k m in
      ⊎_elim (λ i. inl i)
      (λ i. inr (⊎_elim (λ j. inl j) (λ j. inr (unlit_in n rotated k h.0 (rotate_other k i j (λ z. j (z ∙ e)) ∙ h.1))) (same_or k v))) (same_or k u)) in
      omega arith
