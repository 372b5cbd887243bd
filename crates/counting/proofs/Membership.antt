-- Membership in a list, and the tests that say the same.
--   in_left, in_right, in_append      in xs ++ ys exactly if in xs or in ys
--   in_split, in_middle               an element cuts its list in two; a list with one element more
--   in_get_d, get_d_in                  an element stands at some index, and what stands there is one
--   get_d_default                     within the list the default is not read
--   any_some, some_any                any f xs: some element has f
--   all_each, each_all                all f xs: each element has f
--   all_same                          two tests that agree on the elements
--   all_get_d, get_d_all, get_d_fails    the same by index, and where some element has it not
--   any_get_d, get_d_any                and any f xs by index
--   all_take, all_drop, all_append    all f of a part of a list, and of lists joined
--   among_in, in_among                among x xs: x is an element
--   not_among_out, out_not_among      and where it is not
use mathlib.Core.Path.{◌≡◌, refl, sym, ap}
use mathlib.Core.Logic.{◌⊎◌, inl, inr, ⊎_elim}
use mathlib.Core.Bool.{Bool, true, false, not}
use mathlib.Core.List.{List, [], ◌∷◌, ◌++◌}
use Prim.Native.Nat.{ℕ, zero, suc, ◌<◌}
use native.Mathlib.Omega.{arith}
use lib.Dec.{eqb}
use lib.ListN.{length, get_or, take, drop}
use borrow.Author.Tests.{eqb-true, eq-eqb, not-true}
use Rattle.counting.specs.Tests.{all, any, among}
use Rattle.counting.specs.Lists.{In}
use Rattle.counting.proofs.Booleans.{and_left, and_right, and_both, or_right, or_cases, by_test, true_false}

-- JOINED LISTS
pub in_left : {A : Type 0} (x : A) (xs ys : List A) → In x xs → In x (xs ++ ys)
in_left x [] ys m = absurd m
in_left x (z ∷ zs) ys (inl e) = inl e
in_left x (z ∷ zs) ys (inr m) = inr (in_left x zs ys m)

pub in_right : {A : Type 0} (x : A) (xs ys : List A) → In x ys → In x (xs ++ ys)
in_right x [] ys m = m
in_right x (z ∷ zs) ys m = inr (in_right x zs ys m)

pub in_append : {A : Type 0} (x : A) (xs ys : List A) → In x (xs ++ ys) → In x xs ⊎ In x ys
in_append x [] ys m = inr m
in_append x (z ∷ zs) ys (inl e) = inl (inl e)
in_append x (z ∷ zs) ys (inr m) = ⊎_elim (λ a. inl (inr a)) (λ b. inr b) (in_append x zs ys m)

pub in_split : {A : Type 0} (x : A) (ys : List A) → In x ys → (ls : List A) × (rs : List A) × (ys ≡ ls ++ x ∷ rs)
in_split x [] m = absurd m
in_split x (y ∷ ys) (inl e) = ([], ys, rw e)
in_split {A = A} x (y ∷ ys) (inr m) = let r = in_split x ys m in (y ∷ r.0, r.1, ap (λ (l : List A). y ∷ l) r.2)

pub in_middle : {A : Type 0} (y z : A) (ls rs : List A) → In z (ls ++ rs) → In z (ls ++ y ∷ rs)
in_middle y z ls rs m = ⊎_elim (in_left z ls (y ∷ rs)) (λ k. in_right z ls (y ∷ rs) (inr k)) (in_append z ls rs m)

pub in_get_d : {A : Type 0} (x : A) (xs : List A) (d : A) → In x xs → (i : ℕ) × (i < length xs) × (get_or xs i d ≡ x)
in_get_d x [] d m = absurd m
in_get_d x (y ∷ ys) d (inl e) = (0, omega arith, sym e)
in_get_d x (y ∷ ys) d (inr m) = let r = in_get_d x ys d m in (suc r.0, omega (arith, r.1), r.2)

pub get_d_in : {A : Type 0} (xs : List A) (d : A) (i : ℕ) → i < length xs → In (get_or xs i d) xs
get_d_in [] d i h = absurd (omega arith)
get_d_in (x ∷ xs) d zero h = inl refl
get_d_in (x ∷ xs) d (suc i) h = inr (get_d_in xs d i (omega arith))

pub get_d_default : {A : Type 0} (xs : List A) (i : ℕ) (d e : A) → i < length xs → get_or xs i d ≡ get_or xs i e
get_d_default [] i d e h = absurd (omega arith)
get_d_default (x ∷ xs) zero d e h = refl
get_d_default (x ∷ xs) (suc i) d e h = get_d_default xs i d e (omega arith)

-- SOME AND EACH
pub any_some : {A : Type 0} (f : A → Bool) (xs : List A) → any f xs ≡ true → (x : A) × In x xs × (f x ≡ true)
unfolding any
any_some f [] e = true_false e refl
any_some {A = A} f (x ∷ xs) e = go (any_some f xs) (or_cases (f x) (any f xs) e)
  where
    go : (any f xs ≡ true → (y : A) × In y xs × (f y ≡ true)) → (f x ≡ true) ⊎ (any f xs ≡ true) → (y : A) × In y (x ∷ xs) × (f y ≡ true)
    go ih (inl a) = (x, inl refl, a)
    go ih (inr b) = let r = ih b in (r.0, inr r.1, r.2)

pub some_any : {A : Type 0} (f : A → Bool) (x : A) (xs : List A) → In x xs → f x ≡ true → any f xs ≡ true
unfolding any
some_any f x [] m e = absurd m
some_any f x (y ∷ ys) (inl q) e = rw (← q, e)
some_any f x (y ∷ ys) (inr m) e = or_right (f y) (any f ys) (some_any f x ys m e)

pub all_each : {A : Type 0} (f : A → Bool) (xs : List A) → all f xs ≡ true → (x : A) → In x xs → f x ≡ true
unfolding all
all_each f [] e x m = absurd m
all_each f (y ∷ ys) e x (inl q) = rw q (and_left (f y) (all f ys) e)
all_each f (y ∷ ys) e x (inr m) = all_each f ys (and_right (f y) (all f ys) e) x m

pub each_all : {A : Type 0} (f : A → Bool) (xs : List A) → ((x : A) → In x xs → f x ≡ true) → all f xs ≡ true
unfolding all
each_all f [] h = refl
each_all f (x ∷ xs) h = and_both (f x) (all f xs) (h x (inl refl)) (each_all f xs (λ y m. h y (inr m)))

pub all_same : {A : Type 0} (f h : A → Bool) (xs : List A) → ((x : A) → In x xs → f x ≡ h x) → all f xs ≡ all h xs
unfolding all
all_same f h [] e = refl
all_same f h (x ∷ xs) e = rw (e x (inl refl), all_same f h xs (λ y m. e y (inr m)))

pub all_get_d : {A : Type 0} (f : A → Bool) (xs : List A) (d : A) (i : ℕ) → all f xs ≡ true → i < length xs → f (get_or xs i d) ≡ true
unfolding all
all_get_d f [] d i e h = absurd (omega arith)
all_get_d f (x ∷ xs) d zero e h = and_left (f x) (all f xs) e
all_get_d f (x ∷ xs) d (suc i) e h = all_get_d f xs d i (and_right (f x) (all f xs) e) (omega arith)

pub get_d_all : {A : Type 0} (f : A → Bool) (xs : List A) (d : A) → ((i : ℕ) → i < length xs → f (get_or xs i d) ≡ true) → all f xs ≡ true
unfolding all
get_d_all f [] d h = refl
get_d_all f (x ∷ xs) d h = and_both (f x) (all f xs) (h 0 (omega arith)) (get_d_all f xs d (λ i l. h (suc i) (omega arith)))

pub get_d_fails : {A : Type 0} (f : A → Bool) (xs : List A) (d : A) → all f xs ≡ false → (i : ℕ) × (i < length xs) × (f (get_or xs i d) ≡ false)
unfolding all
get_d_fails f [] d h = true_false refl h
get_d_fails f (x ∷ xs) d h =
    by_test (f x)
    (λ t. let r = get_d_fails f xs d (rw t at h) in (suc r.0, omega (arith, r.1), r.2))
    (λ t. (0, omega arith, t))

pub any_get_d : {A : Type 0} (f : A → Bool) (xs : List A) (d : A) → any f xs ≡ true → (i : ℕ) × (i < length xs) × (f (get_or xs i d) ≡ true)
unfolding any
any_get_d f [] d e = true_false e refl
any_get_d f (x ∷ xs) d e =
    ⊎_elim (λ a. (0, omega arith, a)) (λ b. let r = any_get_d f xs d b in (suc r.0, omega (arith, r.1), r.2)) (or_cases (f x) (any f xs) e)

pub get_d_any : {A : Type 0} (f : A → Bool) (xs : List A) (d : A) (i : ℕ) → i < length xs → f (get_or xs i d) ≡ true → any f xs ≡ true
unfolding any
get_d_any f [] d i h e = absurd (omega arith)
get_d_any f (x ∷ xs) d zero h e = rw e
get_d_any f (x ∷ xs) d (suc i) h e = or_right (f x) (any f xs) (get_d_any f xs d i (omega arith) e)

-- EACH ELEMENT of a part of a list, and of lists joined
pub all_take : {A : Type 0} (f : A → Bool) (n : ℕ) (xs : List A) → all f xs ≡ true → all f (take n xs) ≡ true
unfolding all
all_take f zero xs h = refl
all_take f (suc n) [] h = refl
all_take f (suc n) (x ∷ xs) h =
    and_both (f x) (all f (take n xs)) (and_left (f x) (all f xs) h) (all_take f n xs (and_right (f x) (all f xs) h))

pub all_drop : {A : Type 0} (f : A → Bool) (n : ℕ) (xs : List A) → all f xs ≡ true → all f (drop n xs) ≡ true
unfolding all
all_drop f zero xs h = h
all_drop f (suc n) [] h = refl
all_drop f (suc n) (x ∷ xs) h = all_drop f n xs (and_right (f x) (all f xs) h)

pub all_append : {A : Type 0} (f : A → Bool) (xs ys : List A) → all f xs ≡ true → all f ys ≡ true → all f (xs ++ ys) ≡ true
unfolding all
all_append f [] ys h g = g
all_append f (x ∷ xs) ys h g =
    and_both (f x) (all f (xs ++ ys)) (and_left (f x) (all f xs) h) (all_append f xs ys (and_right (f x) (all f xs) h) g)

-- AMONG
pub among_in : (x : ℕ) (xs : List ℕ) → among x xs ≡ true → In x xs
unfolding among
among_in x [] e = true_false e refl
among_in x (y ∷ ys) e = ⊎_elim (λ a. inl (eqb-true x y a)) (λ a. inr (among_in x ys a)) (or_cases (eqb x y) (among x ys) e)

pub in_among : (x : ℕ) (xs : List ℕ) → In x xs → among x xs ≡ true
unfolding among
in_among x [] m = absurd m
in_among x (y ∷ ys) (inl e) = rw (eq-eqb x y e)
in_among x (y ∷ ys) (inr m) = or_right (eqb x y) (among x ys) (in_among x ys m)

pub not_among_out : (x : ℕ) (xs : List ℕ) → not (among x xs) ≡ true → In x xs → ⊥
not_among_out x xs e m = true_false (in_among x xs m) (not-true (among x xs) e)

pub out_not_among : (x : ℕ) (xs : List ℕ) → (In x xs → ⊥) → not (among x xs) ≡ true
out_not_among x xs h = by_test (among x xs) (λ e. absurd (h (among_in x xs e))) (λ e. rw e)
