-- The entries of a state, by their names.
--   kept_entry          the pairs under a name that is kept are an entry's
--   without_gone        a name that was taken out is not kept
--   without_other       what stands under another name stays
--   without_fewer       no more entries are left; fewer where the name was kept
--   placed_few          where question 19 lets a name pass, no more than eight are kept with it
--   names_of            their names
--   without_once        no name stands twice then either, nor does the one that was taken out stand there
use mathlib.Core.Path.{◌≡◌, refl, sym, ap, ◌∙◌}
use mathlib.Core.Logic.{◌≢◌, inl, inr, ⊎_elim}
use mathlib.Core.Bool.{true, false, ◌||◌, not}
use mathlib.Core.List.{List, [], ◌∷◌, map}
use Prim.Native.Nat.{ℕ, suc, ◌≤◌, ◌<◌}
use native.Mathlib.Omega.{arith}
use lib.Dec.{eqb, ltb}
use lib.ListN.{length}
use borrow.Author.Tests.{eqb-true, eq-eqb, ne_eqb, not-true, ltb-true}
use Rattle.formats.specs.Limits.{names_most}
use Rattle.counting.specs.Tests.{any, keep}
use Rattle.counting.specs.Lists.{In, Distinct}
use Rattle.counting.proofs.Booleans.{by_test, or_cases, true_false}
use Rattle.counting.proofs.Membership.{any_some}
use Rattle.counting.proofs.Kept.{in_keep, keep_distinct}
use Rattle.frames.specs.Questions.{ask}
use Rattle.frames.proofs.Questions.{accepted}
use Rattle.kept.specs.State.{Named, State, is_named, is_kept, without, pairs_under, place_fault}

pub kept_entry : (n : ℕ) (xs : List Named) → any (is_named n) xs ≡ true → (x : Named) × In x xs × (pairs_under n xs ≡ x.pairs)
unfolding any pairs_under
kept_entry n [] e = true_false e refl
kept_entry n (x ∷ xs) e =
    by_test (is_named n x) (λ t. (x, inl refl, rw t)) (λ t. let r = kept_entry n xs (rw t at e) in (r.0, inr r.1, rw t r.2))

pub without_gone : (n : ℕ) (xs : List Named) → any (is_named n) (without n xs) ≡ false
without_gone n xs =
    by_test (any (is_named n) (without n xs))
    (λ t.
    let r = any_some (is_named n) (without n xs) t in
    true_false r.2 (not-true (is_named n r.0) (in_keep (λ (x : Named). not (is_named n x)) xs r.0 r.1).1))
    (λ t. t)

pub without_other : (n m : ℕ) (xs : List Named) → m ≢ n →
    (any (is_named n) (without m xs) ≡ any (is_named n) xs) × (pairs_under n (without m xs) ≡ pairs_under n xs)
unfolding any pairs_under keep
without_other n m [] h = (refl, refl)
without_other n m (x ∷ xs) h =
    let ih = without_other n m xs h in
    by_test (is_named m x)
    (λ t. let u : is_named n x ≡ false = ne_eqb x.name n (λ q. h (sym (eqb-true x.name m t) ∙ q)) in rw (t, u) ih)
    (λ t. rw (t, ih.0, ih.1) (refl, refl))

pub without_fewer : (n : ℕ) (xs : List Named) →
    (length (without n xs) ≤ length xs) × (any (is_named n) xs ≡ true → length (without n xs) < length xs)
unfolding any keep
without_fewer n [] = (omega arith, λ e. true_false e refl)
without_fewer n (x ∷ xs) =
    let ih = without_fewer n xs in
    by_test (is_named n x) (λ t. rw t (omega (arith, ih.0), λ e. omega (arith, ih.0)))
    (λ t. rw t (omega (arith, ih.0), λ e. omega (arith, ih.1 e)))

pub placed_few : (s : State) (n : ℕ) → length s.kept ≤ names_most → place_fault s n ≡ 0 → suc (length (without n s.kept)) ≤ names_most
placed_few s n few e =
    let fewer = without_fewer n s.kept in
    ⊎_elim (λ t. omega (arith, fewer.1 t)) (λ t. omega (arith, fewer.0, ltb-true (length s.kept) names_most t))
    (or_cases (is_kept s n) (ltb (length s.kept) names_most) (accepted 19 (ask 19 (is_kept s n || ltb (length s.kept) names_most) ∷ []) refl e))

-- NAMES
abbrev pub names_of : List Named → List ℕ
names_of xs = map (λ (x : Named). x.name) xs

names_without : (n : ℕ) (xs : List Named) →
    names_of (without n xs) ≡ keep (λ (m : ℕ). not (eqb m n)) (names_of xs)
unfolding keep
names_without n [] = refl
names_without n (x ∷ xs) =
    by_test (is_named n x) (λ t. rw t (names_without n xs)) (λ t. rw t (ap (λ (ms : List ℕ). x.name ∷ ms) (names_without n xs)))

pub without_once : (n : ℕ) (xs : List Named) → Distinct (names_of xs) →
    (In n (names_of (without n xs)) → ⊥) × Distinct (names_of (without n xs))
without_once n xs d =
    rw (names_without n xs) (
      λ m. true_false (eq-eqb n n refl) (not-true (eqb n n) (in_keep (λ (k : ℕ). not (eqb k n)) (names_of xs) n m).1),
      keep_distinct (λ (k : ℕ). not (eqb k n)) (names_of xs) d,
    )
