-- Document 03's tests over lists, taken over from its Frames, Graph and Promise; `keep` for elements of any type.
--   pick b x y       x where b is true, else y
--   all f xs         f holds of every element
--   any f xs         f holds of some element
--   among x xs       the number x is an element
--   same xs ys       two lists of numbers are the same
--   none_twice xs    no number stands twice
--   up_from i n      i, i+1, .., n numbers
--   below n          0, 1, .., n-1
--   keep f xs        the elements of which f holds, in order
use Rattle.std.specs.Prelude.{Bool, true, false, ◌&&◌, ◌||◌, not, List, [], ◌∷◌, ℕ, zero, suc, eqb}

abbrev pub pick : {A : Type 0} → Bool → A → A → A
pick true x y = x
pick false x y = y

unfoldable pub all : {A : Type 0} → (A → Bool) → List A → Bool
all f [] = true
all f (x ∷ xs) = f x && all f xs

unfoldable pub any : {A : Type 0} → (A → Bool) → List A → Bool
any f [] = false
any f (x ∷ xs) = f x || any f xs

unfoldable pub among : ℕ → List ℕ → Bool
among x [] = false
among x (y ∷ ys) = eqb x y || among x ys

unfoldable pub same : List ℕ → List ℕ → Bool
same [] [] = true
same [] (y ∷ ys) = false
same (x ∷ xs) [] = false
same (x ∷ xs) (y ∷ ys) = eqb x y && same xs ys

unfoldable pub none_twice : List ℕ → Bool
none_twice [] = true
none_twice (x ∷ xs) = not (among x xs) && none_twice xs

unfoldable pub up_from : ℕ → ℕ → List ℕ
up_from i zero = []
up_from i (suc n) = i ∷ up_from (suc i) n

abbrev pub below : ℕ → List ℕ
below n = up_from 0 n

unfoldable pub keep : {A : Type 0} → (A → Bool) → List A → List A
keep f [] = []
keep f (x ∷ xs) = pick (f x) (x ∷ keep f xs) (keep f xs)
