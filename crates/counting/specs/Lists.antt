-- Lists as sets: notions that a proof takes apart by cases, and lists made from lists.
--   In x xs             x is an element of xs
--   Within S xs         every element of xs is in the set S
--   Apart xs ys         no number is an element of both
--   Distinct xs         no element stands twice
--   InjectiveOn f xs    f sends different elements of xs to different numbers
--   image f xs          f of each element, in order
--   reverse_map f xs    f of each element, the last first
--   find f xs           the first element of which f holds, 0 where there is none
use Rattle.std.specs.Prelude.{◌≡◌, ◌⊎◌, Bool, List, [], ◌∷◌, ◌++◌, ℕ}
use Rattle.counting.specs.Tests.{pick}

abbrev pub In : {A : Type 0} → A → List A → Type 0
In x [] = ⊥
In x (y ∷ ys) = (x ≡ y) ⊎ In x ys

abbrev pub Within : (ℕ → Type 0) → List ℕ → Type 0
Within S xs = (x : ℕ) → In x xs → S x

abbrev pub Apart : List ℕ → List ℕ → Type 0
Apart xs ys = (x : ℕ) → In x xs → In x ys → ⊥

abbrev pub Distinct : List ℕ → Type 0
Distinct [] = Unit {0}
Distinct (x ∷ xs) = (In x xs → ⊥) × Distinct xs

abbrev pub InjectiveOn : (ℕ → ℕ) → List ℕ → Type 0
InjectiveOn f xs = (x y : ℕ) → In x xs → In y xs → f x ≡ f y → x ≡ y

abbrev pub image : (ℕ → ℕ) → List ℕ → List ℕ
image f [] = []
image f (x ∷ xs) = f x ∷ image f xs

abbrev pub reverse_map : (ℕ → ℕ) → List ℕ → List ℕ
reverse_map f [] = []
reverse_map f (x ∷ xs) = reverse_map f xs ++ (f x ∷ [])

unfoldable pub find : (ℕ → Bool) → List ℕ → ℕ
find f [] = 0
find f (x ∷ xs) = pick (f x) x (find f xs)
