-- Runs of stores into a list.
--   sets_append                       a run of stores behind another is one run
--   take_sets                         what was stored at the front, read back
--   get_d_sets_out, get_d_sets_in     what is read outside the run, and inside it
use mathlib.Core.Path.{◌≡◌, refl, ◌∙◌}
use mathlib.Core.Logic.{◌⊎◌, inl, inr, ⊎_elim}
use mathlib.Core.List.{List, [], ◌∷◌, ◌++◌}
use Prim.Native.Nat.{ℕ, zero, suc, ◌+◌, ◌≤◌, ◌<◌}
use native.Mathlib.Omega.{arith}
use lib.ListN.{length, get_or, set, take, drop, length-set}
use lib.Seq.{sets, sets-eq, take-append_seam, get_or-set_same, get_or-set_other}

pub sets_append : {A : Type 0} (l : List A) (i : ℕ) (xs ys : List A) → sets (sets l i xs) (i + length xs) ys ≡ sets l i (xs ++ ys)
sets_append l i [] ys = let e : i + 0 ≡ i = omega arith in rw e
sets_append l i (x ∷ xs) ys = let e : i + suc (length xs) ≡ suc i + length xs = omega arith in rw e (sets_append (set l i x) (suc i) xs ys)

pub take_sets : {A : Type 0} (l xs : List A) → length xs ≤ length l → take (length xs) (sets l 0 xs) ≡ xs
take_sets l xs h = rw (sets-eq xs l 0 (omega arith)) (take-append_seam xs (drop (0 + length xs) l))

pub get_d_sets_out : (l : List ℕ) (i k : ℕ) (xs : List ℕ) → (k < i) ⊎ (i + length xs ≤ k) → get_or (sets l i xs) k 0 ≡ get_or l k 0
get_d_sets_out l i k [] h = refl
get_d_sets_out l i k (x ∷ xs) h =
    get_d_sets_out (set l i x) (suc i) k xs (⊎_elim (λ a. inl (omega arith)) (λ a. inr (omega arith)) h) ∙
    get_or-set_other l i k x 0 (λ q. ⊎_elim (λ a. omega arith) (λ a. omega arith) h)

pub get_d_sets_in : (l : List ℕ) (i j : ℕ) (xs : List ℕ) → j < length xs → i + length xs ≤ length l → get_or (sets l i xs) (i + j) 0 ≡ get_or xs j 0
get_d_sets_in l i j [] h k = absurd (omega arith)
get_d_sets_in l i zero (x ∷ xs) h k =
    let e : i + 0 ≡ i = omega arith in
    rw e (get_d_sets_out (set l i x) (suc i) i xs (inl (omega arith)) ∙ get_or-set_same l i x 0 (omega arith))
get_d_sets_in l i (suc j) (x ∷ xs) h k =
    let e : i + suc j ≡ suc i + j = omega arith in
    rw e (get_d_sets_in (set l i x) (suc i) j xs (omega arith) (omega (arith, length-set l i x)))
