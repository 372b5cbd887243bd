-- The elements of a list without repeats that pass a test, numbered by how many smaller ones pass.
--   number t            how many elements below t pass
--   number_le, _lt      it rises, and at each element that passes
--   number_suc, _zero   one step, and the start
--   number_find         every number below one that is given is given
use mathlib.Core.Path.{◌≡◌, subst}
use mathlib.Core.Logic.{◌⊎◌, inl, inr, ⊎_elim}
use mathlib.Core.Bool.{Bool, true, ◌&&◌}
use mathlib.Core.List.{List, [], ◌∷◌}
use Prim.Native.Nat.{ℕ, zero, suc, ◌≤◌, ◌<◌}
use native.Mathlib.Omega.{arith}
use lib.Dec.{ltb}
use lib.ListN.{length}
use borrow.Author.Tests.{ltb-true, ltb-false, lt-ltb}
use Rattle.counting.specs.Tests.{among, keep}
use Rattle.counting.specs.Lists.{In, Distinct}
use Rattle.counting.proofs.Booleans.{and_two, and_both, by_test, same_or, true_false}
use Rattle.counting.proofs.Membership.{among_in, in_among}
use Rattle.counting.proofs.Kept.{in_keep, keep_in, keep_distinct}
use Rattle.counting.proofs.Pigeonhole.{distinct_within}

module _ (xs : List ℕ) (d : Distinct xs) (P : ℕ → Bool) where
  abbrev pub before : ℕ → ℕ → Bool
  before t w = ltb w t && P w

  abbrev pub number : ℕ → ℕ
  number t = length (keep (before t) xs)

  before_in : (t w : ℕ) → In w xs → w < t → P w ≡ true → In w (keep (before t) xs)
  before_in t w m l p = keep_in (before t) xs w m (and_both (ltb w t) (P w) (lt-ltb w t l) p)

  in_before : (t w : ℕ) → In w (keep (before t) xs) → In w xs × (w < t) × (P w ≡ true)
  in_before t w m =
      let r = in_keep (before t) xs w m in let s = and_two (ltb w t) (P w) r.1 in (r.0, ltb-true w t s.0, s.1)

  pub number_le : (t u : ℕ) → t ≤ u → number t ≤ number u
  number_le t u l =
      distinct_within (keep (before t) xs) (keep (before u) xs) (keep_distinct (before t) xs d)
      (λ w m. let r = in_before t w m in before_in u w r.0 (omega (arith, r.1)) r.2)

  pub number_lt : (t u : ℕ) → t < u → In t xs → P t ≡ true → number t < number u
  number_lt t u l m p =
      distinct_within (t ∷ keep (before t) xs) (keep (before u) xs) (λ k. omega (arith, (in_before t t k).1), keep_distinct (before t) xs d)
      (λ w. ⊎_elim (λ e. rw e (before_in u t m l p)) (λ k. let r = in_before t w k in before_in u w r.0 (omega (arith, r.1)) r.2))

  pub number_suc : (t : ℕ) → (number (suc t) ≤ number t) ⊎ (In t xs × (P t ≡ true) × (number (suc t) ≤ suc (number t)))
  number_suc t =
      by_test (among t xs && P t)
      (λ e.
      let r = and_two (among t xs) (P t) e in
      inr (
        among_in t xs r.0,
        r.1,
        distinct_within (keep (before (suc t)) xs) (t ∷ keep (before t) xs) (keep_distinct (before (suc t)) xs d)
            (λ w m. let s = in_before (suc t) w m in ⊎_elim (λ q. inl q) (λ n. inr (before_in t w s.0 (omega (arith, s.1)) s.2)) (same_or w t)),
      ))
      (λ e.
      inl
      (distinct_within (keep (before (suc t)) xs) (keep (before t) xs) (keep_distinct (before (suc t)) xs d)
      (λ w m.
      let s = in_before (suc t) w m in
      ⊎_elim (λ q. true_false (and_both _ _ (in_among t xs (subst (λ (z : ℕ). In z xs) q s.0)) (rw q at s.2)) e)
      (λ n. before_in t w s.0 (omega (arith, s.1)) s.2) (same_or w t))))

  pub number_zero : number 0 ≡ 0
  number_zero =
      omega
      (arith, distinct_within (keep (before 0) xs) [] (keep_distinct (before 0) xs d) (λ w m. absurd (omega (arith, (in_before 0 w m).1))))

  pub number_find : (t k : ℕ) → k < number t → (u : ℕ) × In u xs × (P u ≡ true) × (number u ≡ k)
  number_find zero k h = absurd (omega (arith, number_zero))
  number_find (suc t) k h =
      by_test (ltb k (number t)) (λ e. number_find t k (ltb-true k (number t) e))
      (λ e.
      let l = ltb-false k (number t) e in
      ⊎_elim (λ r. absurd (omega arith)) (λ r. (t, r.0, r.1, omega (arith, r.2))) (number_suc t))
