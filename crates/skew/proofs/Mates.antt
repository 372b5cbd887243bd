-- Mates of nodes and of arcs: the lowest bit flipped.
--   mate_is                                    the mate by arithmetic
--   mate_mate, mate_other, mate_inj            an involution without fixed points
--   mate_below                                 it keeps an even bound
--   mate_half, half_pair                       a pair's two numbers have one half
--   pair_or_other, pair_mate, other_mate       a node is one of a pair or neither, and so its mate
--   AreMates, arcs_mates                       mates_fit: each arc's mate is its neighbour
use mathlib.Core.Path.{◌≡◌, refl, sym, ap, ◌∙◌}
use mathlib.Core.Logic.{◌⊎◌, inl, inr, ◌≢◌, ⊎_elim}
use mathlib.Core.Bool.{Bool, true, false}
use mathlib.Core.List.{List, [], ◌∷◌}
use Prim.Native.Nat.{ℕ, zero, suc, ◌+◌, ◌*◌, ◌-◌, ◌/◌, ◌%◌, ◌<◌}
use native.Mathlib.Omega.{arith}
use lib.Dec.{eqb}
use lib.ListN.{length, get_or}
use borrow.Author.Tests.{eqb-true, eqb-false}
use Rattle.counting.specs.Tests.{pick}
use Rattle.skew.specs.Graph.{no_arc, mate, are_mates, mates_fit}
use Rattle.skew.specs.declared.Arc.{Arc}
use Rattle.counting.proofs.Booleans.{and_left, and_right, same_or}

pub mate_is : (v : ℕ) → mate v ≡ v + 1 - 2 * (v % 2)
mate_is v = go (eqb (v % 2) 0) refl
  where
    go : (b : Bool) → eqb (v % 2) 0 ≡ b → pick b (v + 1) (v - 1) ≡ v + 1 - 2 * (v % 2)
    go true e = omega (arith, eqb-true (v % 2) 0 e)
    go false e = let h : v % 2 ≢ 0 = eqb-false (v % 2) 0 e in omega arith

pub mate_mate : (v : ℕ) → mate (mate v) ≡ v
mate_mate v = omega (arith, mate_is v, mate_is (mate v))

pub mate_other : (v : ℕ) → mate v ≢ v
mate_other v = omega (arith, mate_is v)

pub mate_below : (v n : ℕ) → n % 2 ≡ 0 → v < n → mate v < n
mate_below v n e h = omega (arith, mate_is v)

pub mate_inj : (v w : ℕ) → mate v ≡ mate w → v ≡ w
mate_inj v w e = omega (arith, mate_is v, mate_is w)

mate_suc_suc : (v : ℕ) → mate (suc (suc v)) ≡ suc (suc (mate v))
mate_suc_suc v = omega (arith, mate_is v, mate_is (suc (suc v)))

-- A NODE'S PAIR
pub mate_half : (v : ℕ) → mate v / 2 ≡ v / 2
mate_half v = omega (arith, mate_is v)

pub half_pair : (u w : ℕ) → u / 2 ≡ w / 2 → (u ≡ w) ⊎ (u ≡ mate w)
half_pair u w q = go (u % 2) (w % 2) refl refl
  where
    go : (a b : ℕ) → u % 2 ≡ a → w % 2 ≡ b → (u ≡ w) ⊎ (u ≡ mate w)
    go zero zero x y = inl (omega arith)
    go (suc a) zero x y = inr (omega (arith, mate_is w))
    go zero (suc b) x y = inr (omega (arith, mate_is w))
    go (suc a) (suc b) x y = inl (omega arith)

pub pair_or_other : (w u : ℕ) → ((u ≡ w) ⊎ (u ≡ mate w)) ⊎ ((u ≢ w) × (u ≢ mate w))
pair_or_other w u =
    ⊎_elim (λ a. inl (inl a)) (λ a. ⊎_elim (λ b. inl (inr b)) (λ b. inr (a, b)) (same_or u (mate w))) (same_or u w)

pub pair_mate : (w u : ℕ) → (u ≡ w) ⊎ (u ≡ mate w) → (mate u ≡ w) ⊎ (mate u ≡ mate w)
pair_mate w u (inl q) = inr (ap mate q)
pair_mate w u (inr q) = inl (ap mate q ∙ mate_mate w)

pub other_mate : (w u : ℕ) → (u ≢ w) × (u ≢ mate w) → (mate u ≢ w) × (mate u ≢ mate w)
other_mate w u o = (λ q. o.1 (sym (mate_mate u) ∙ ap mate q), λ q. o.0 (mate_inj u w q))

-- THE TEST mates_fit
pub record AreMates (x y : Arc) : Type 0 where
  pub tail : y.tail ≡ mate x.head
  pub head : y.head ≡ mate x.tail

are_mates_lem : (x y : Arc) → are_mates x y ≡ true → AreMates x y
are_mates_lem x y e =
    record {
      tail = eqb-true y.tail (mate x.head) (and_left _ _ e);
      head = eqb-true y.head (mate x.tail) (and_right (eqb y.tail (mate x.head)) _ e);
    }

are_mates_back : (x y : Arc) → AreMates x y → AreMates y x
are_mates_back x y h =
    record {
      tail = sym (mate_mate x.tail) ∙ ap mate (sym h.head);
      head = sym (mate_mate x.head) ∙ ap mate (sym h.tail);
    }

pub arcs_mates : (xs : List Arc) → mates_fit xs ≡ true → length xs % 2 ≡ 0 → (i : ℕ) → i < length xs →
    AreMates (get_or xs i no_arc) (get_or xs (mate i) no_arc)
unfolding mates_fit
arcs_mates [] f e i h = absurd (omega arith)
arcs_mates (x ∷ []) f e i h = absurd (omega arith)
arcs_mates (x ∷ y ∷ xs) f e zero h = are_mates_lem x y (and_left _ _ f)
arcs_mates (x ∷ y ∷ xs) f e (suc zero) h = are_mates_back x y (are_mates_lem x y (and_left _ _ f))
arcs_mates (x ∷ y ∷ xs) f e (suc (suc i)) h =
    rw (mate_suc_suc i) (arcs_mates xs (and_right (are_mates x y) _ f) (omega arith) i (omega arith))
