-- A list gone through in a loop, from its front to its end: what holds on the way.
--   Next xs i x                             x stands at place i of xs, and what follows behind it
--   Mapped f was now i                      the elements before place i are as f says, by their places and what they were; the others are as they were
use Rattle.std.specs.Prelude.{◌≡◌, List, ◌∷◌, ℕ, ◌+◌, ◌≤◌, ◌<◌, length, get_or, drop}

pub record Next {A : Type 0} (xs : List A) (i : ℕ) (x : A) : Type 0 where
  pub is : drop i xs ≡ x ∷ drop (i + 1) xs

pub record Mapped (f : ℕ → ℕ → ℕ) (was now : List ℕ) (i : ℕ) : Type 0 where
  pub long : length now ≡ length was
  pub done : (u : ℕ) → u < i → get_or now u 0 ≡ f u (get_or was u 0)
  pub rest : (u : ℕ) → i ≤ u → get_or now u 0 ≡ get_or was u 0
