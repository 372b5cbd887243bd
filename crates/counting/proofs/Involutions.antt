-- A list without repeats that is closed under an involution without fixed points has even length.
--   even_within      by induction on a bound of the length: an element and its image are taken out together
--   even             so for every list
use mathlib.Core.Path.{◌≡◌, refl, sym, ap, subst, ◌∙◌}
use mathlib.Core.Logic.{inl, inr, ◌≢◌, ⊎_elim}
use mathlib.Core.List.{List, [], ◌∷◌, ◌++◌}
use Prim.Native.Nat.{ℕ, zero, suc, ◌%◌, ◌≤◌}
use native.Mathlib.Omega.{arith}
use lib.ListN.{length, length-append}
use Rattle.counting.specs.Lists.{In, Distinct}
use Rattle.counting.proofs.Membership.{in_left, in_right, in_append, in_split, in_middle}
use Rattle.counting.proofs.NoRepeats.{distinct_middle}

even_within : (f : ℕ → ℕ) (n : ℕ) (xs : List ℕ) → length xs ≤ n → Distinct xs → ((x : ℕ) → In x xs → In (f x) xs) →
    ((x : ℕ) → f (f x) ≡ x) → ((x : ℕ) → In x xs → f x ≢ x) → length xs % 2 ≡ 0
even_within f zero [] l d c b nf = refl
even_within f zero (x ∷ xs) l d c b nf = absurd (omega arith)
even_within f (suc n) [] l d c b nf = refl
even_within f (suc n) (x ∷ xs) l d c b nf =
    let m : In (f x) xs = ⊎_elim (λ e. absurd (nf x (inl refl) e)) (λ k. k) (c x (inl refl)) in
    let r = in_split (f x) xs m in
    let ls = r.0 in
    let rs = r.1 in
    let e : xs ≡ ls ++ f x ∷ rs = r.2 in
    let k = distinct_middle (f x) ls rs (subst (λ (zs : List ℕ). Distinct zs) e d.1) in
    let in_xs : (z : ℕ) → In z (ls ++ rs) → In z xs = λ z h. rw e (in_middle (f x) z ls rs h) in
    let closed : (z : ℕ) → In z (ls ++ rs) → In (f z) (ls ++ rs) = λ z h.
    ⊎_elim (λ q. absurd (k.0 (subst (λ (w : ℕ). In w (ls ++ rs)) (sym (b z) ∙ ap f q) h)))
    (λ q. ⊎_elim (in_left (f z) ls rs)
    (⊎_elim (λ w. absurd (d.0 (subst (λ (u : ℕ). In u xs) (sym (b z) ∙ ap f w ∙ b x) (in_xs z h)))) (in_right (f z) ls rs))
    (in_append (f z) ls (f x ∷ rs) (subst (λ (zs : List ℕ). In (f z) zs) e q)))
    (c z (inr (in_xs z h))) in
    let s : length xs ≡ suc (length (ls ++ rs)) =
    ap (λ (zs : List ℕ). length zs) e ∙ omega (arith, length-append ls rs, length-append ls (f x ∷ rs)) in
    omega (arith, even_within f n (ls ++ rs) (omega arith) k.1 closed b (λ z h. nf z (inr (in_xs z h))))

pub even : (f : ℕ → ℕ) (xs : List ℕ) → Distinct xs → ((x : ℕ) → In x xs → In (f x) xs) →
    ((x : ℕ) → f (f x) ≡ x) → ((x : ℕ) → In x xs → f x ≢ x) → length xs % 2 ≡ 0
even f xs d c b nf = even_within f (length xs) xs (omega arith) d c b nf
