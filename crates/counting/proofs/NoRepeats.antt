-- Lists in which no number stands twice.
--   distinct_append                               two such lists with no common element, joined
--   distinct_middle                               one element taken out
--   none_twice_distinct, distinct_none_twice      the test none_twice
use mathlib.Core.Path.{◌≡◌, refl, sym}
use mathlib.Core.Logic.{inl, inr, ⊎_elim}
use mathlib.Core.Bool.{true, not}
use mathlib.Core.List.{List, [], ◌∷◌, ◌++◌}
use Prim.Native.Nat.{ℕ}
use Rattle.counting.specs.Tests.{among, none_twice}
use Rattle.counting.specs.Lists.{In, Apart, Distinct}
use Rattle.counting.proofs.Booleans.{and_left, and_right, and_both}
use Rattle.counting.proofs.Membership.{in_right, in_append, in_middle, not_among_out, out_not_among}

pub distinct_append : (xs ys : List ℕ) → Distinct xs → Distinct ys → Apart xs ys → Distinct (xs ++ ys)
distinct_append [] ys d e a = e
distinct_append (x ∷ xs) ys d e a =
    (λ m. ⊎_elim d.0 (a x (inl refl)) (in_append x xs ys m), distinct_append xs ys d.1 e (λ z m. a z (inr m)))

pub distinct_middle : (y : ℕ) (ls rs : List ℕ) → Distinct (ls ++ y ∷ rs) → (In y (ls ++ rs) → ⊥) × Distinct (ls ++ rs)
distinct_middle y [] rs d = d
distinct_middle y (l ∷ ls) rs d =
    let r = distinct_middle y ls rs d.1 in (
      ⊎_elim (λ e. d.0 (in_right l ls (y ∷ rs) (inl (sym e)))) r.0,
      (λ m. d.0 (in_middle y l ls rs m), r.1),
    )

pub none_twice_distinct : (xs : List ℕ) → none_twice xs ≡ true → Distinct xs
unfolding none_twice
none_twice_distinct [] e = tt
none_twice_distinct (x ∷ xs) e =
    (not_among_out x xs (and_left _ _ e), none_twice_distinct xs (and_right (not (among x xs)) _ e))

pub distinct_none_twice : (xs : List ℕ) → Distinct xs → none_twice xs ≡ true
unfolding none_twice
distinct_none_twice [] d = refl
distinct_none_twice (x ∷ xs) d = and_both _ _ (out_not_among x xs d.0) (distinct_none_twice xs d.1)
