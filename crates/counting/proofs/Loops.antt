-- A list gone through in a loop.
--   next_in, next_front, next_below, next_pair    what stands at a place: of a list, of its front, of the numbers below a bound, of two lists zipped
--   mapped_start, mapped_next, mapped_end         no element is mapped; one more is; all are
--   mapped_here                                   the element at hand is as it was
use mathlib.Core.Path.{◌≡◌, refl, ap, ◌∙◌}
use mathlib.Core.Logic.{⊎_elim}
use mathlib.Core.List.{List}
use Prim.Native.Nat.{ℕ, zero, suc, ◌+◌, ◌≤◌, ◌<◌}
use native.Mathlib.Numerals.{add-one}
use native.Mathlib.Omega.{arith}
use lib.ListN.{length, get_or, take, set, length-set}
use lib.Seq.{drop-cons, length-take-le, get_or-take, get_or-set_same, get_or-set_other}
use Rattle.counting.specs.Tests.{up_from, below}
use Rattle.counting.specs.Pairs.{pair, no_pair, zip_pairs}
use Rattle.counting.specs.Loops.{Next, Mapped}
use Rattle.counting.proofs.Booleans.{same_or}
use Rattle.counting.proofs.Range.{length_up}
use Rattle.counting.proofs.Zips.{zip_length, zip_at}

-- WHAT STANDS AT A PLACE
pub next_in : {A : Type 0} (xs : List A) (d : A) (i : ℕ) → i < length xs → Next xs i (get_or xs i d)
next_in xs d i l = record { is = rw (add-one, drop-cons xs i d l) }

pub next_front : (n : ℕ) (xs : List ℕ) (i : ℕ) → n ≤ length xs → i < n → Next (take n xs) i (get_or xs i 0)
next_front n xs i h l = rw (get_or-take n xs i 0 l) at (next_in (take n xs) 0 i (omega (arith, length-take-le n xs h)))

pub next_pair : (xs ys : List ℕ) (i : ℕ) → length ys ≡ length xs → i < length xs → Next (zip_pairs xs ys) i (pair (get_or xs i 0) (get_or ys i 0))
next_pair xs ys i e l = rw (zip_at xs ys i e l) at (next_in (zip_pairs xs ys) no_pair i (omega (arith, zip_length xs ys e)))

up_at : (a n v : ℕ) → v < n → get_or (up_from a n) v 0 ≡ a + v
unfolding up_from
up_at a zero v l = absurd (omega arith)
up_at a (suc n) zero l = omega arith
up_at a (suc n) (suc v) l = omega (arith, up_at (suc a) n v (omega arith))

pub next_below : (n v : ℕ) → v < n → Next (below n) v v
next_below n v l =
    let e : get_or (below n) v 0 ≡ v = up_at 0 n v l ∙ omega arith in
    rw e at (next_in (below n) 0 v (omega (arith, length_up 0 n)))

-- EACH ELEMENT MAPPED IN PLACE
pub mapped_start : (f : ℕ → ℕ → ℕ) (was : List ℕ) → Mapped f was was 0
mapped_start f was = record { long = refl; done = λ u h. absurd (omega arith); rest = λ u h. refl }

module _ {f : ℕ → ℕ → ℕ} {was now : List ℕ} {i : ℕ} (M : Mapped f was now i) where
  pub mapped_here : get_or now i 0 ≡ get_or was i 0
  mapped_here = M.rest i (omega arith)

  pub mapped_next : {x : ℕ} → i < length now → x ≡ f i (get_or now i 0) → Mapped f was (set now i x) (i + 1)
  mapped_next {x} h e =
      record {
        long = length-set now i x ∙ M.long;
        done = λ u l.
            ⊎_elim (λ (q : u ≡ i). rw q (get_or-set_same now i x 0 h ∙ e ∙ ap (f i) mapped_here))
            (λ n. get_or-set_other now i u x 0 n ∙ M.done u (omega arith)) (same_or u i);
        rest = λ u l. get_or-set_other now i u x 0 (λ q. omega arith) ∙ M.rest u (omega arith);
      }

  pub mapped_end : length now ≤ i → i ≤ length was → Mapped f was now (length was)
  mapped_end h k = let e : i ≡ length was = omega (arith, M.long) in rw e at M
