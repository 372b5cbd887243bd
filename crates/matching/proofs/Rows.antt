-- Stores into a row of partners.
--   row_partner                       a camera's partner, read with any default
--   length_rotate, length_light       the row keeps its length
--   rotate_row_lem                    three stores are a rotation
--   light_row_lem                     two stores add a pair to the front of the list that the row stands for
--   own_row                           a row in which each camera is its own partner
use mathlib.Core.Path.{◌≡◌, sym, ap, ◌∙◌, fun_ext}
use mathlib.Core.Logic.{◌≢◌, ⊎_elim}
use mathlib.Core.List.{List, [], ◌∷◌}
use Prim.Native.Nat.{ℕ, ◌<◌}
use native.Mathlib.Omega.{arith}
use lib.Dec.{ltb}
use lib.ListN.{length, get_or, set, length-set, get_or-eq_default}
use lib.Seq.{get_or-set_same, get_or-set_other}
use borrow.Author.Tests.{eq-eqb, ne_eqb, ltb-true, ltb-false}
use Rattle.counting.specs.declared.Pair.{Pair}
use Rattle.counting.proofs.Booleans.{by_test, same_or}
use Rattle.counting.proofs.Membership.{get_d_default}
use Rattle.matching.specs.Matching.{partner}
use Rattle.matching.specs.Rotation.{rotate}
use Rattle.matching.specs.Row.{partner_in, rotate_row, light_row}

pub row_partner : (row : List ℕ) (k : ℕ) → k < length row → partner_in row k ≡ get_or row k 0
row_partner row k h = get_d_default row k k 0 h

pub length_rotate : (row : List ℕ) (u v : ℕ) → length (rotate_row row u v) ≡ length row
length_rotate row u v =
    let w = get_or row v 0 in length-set (set (set row w w) u v) v u ∙ length-set (set row w w) u v ∙ length-set row w w

pub length_light : (row : List ℕ) (u v : ℕ) → length (light_row row u v) ≡ length row
length_light row u v = length-set (set row v u) u v ∙ length-set row v u

pub rotate_row_lem : (row : List ℕ) (u v : ℕ) → u < length row → v < length row → get_or row v 0 < length row → u ≢ v →
    partner_in (rotate_row row u v) ≡ rotate (partner_in row) u v
unfolding rotate
rotate_row_lem row u v hu hv hw ne = fun_ext at
  where
    w : ℕ
    w = get_or row v 0

    r₁ : List ℕ
    r₁ = set row w w

    r₂ : List ℕ
    r₂ = set r₁ u v

    wv : w ≡ get_or row v v
    wv = get_d_default row v 0 v hv

    l₁ : length r₁ ≡ length row
    l₁ = length-set row w w

    l₂ : length r₂ ≡ length row
    l₂ = length-set r₁ u v ∙ l₁

    at : (k : ℕ) → partner_in (rotate_row row u v) k ≡ rotate (partner_in row) u v k
    at k =
        ⊎_elim
        (λ a.
        let kv : k ≢ v = λ z. ne (sym a ∙ z) in
        rw (eq-eqb k u a) (get_or-set_other r₂ v k u k kv ∙ ap (λ (x : ℕ). get_or r₂ x k) a ∙ get_or-set_same r₁ u v k (omega (arith, l₁))))
        (λ a.
        ⊎_elim
        (λ b. rw (ne_eqb k u a, eq-eqb k v b) (ap (λ (x : ℕ). get_or (set r₂ v u) x k) b ∙ get_or-set_same r₂ v u k (omega (arith, l₂))))
        (λ b.
        let rest : get_or (rotate_row row u v) k k ≡ get_or r₁ k k = get_or-set_other r₂ v k u k b ∙ get_or-set_other r₁ u k v k a in
        ⊎_elim
        (λ c.
        rw (ne_eqb k u a, ne_eqb k v b, eq-eqb k (get_or row v v) c)
        (rest ∙ ap (λ (x : ℕ). get_or r₁ x k) (c ∙ sym wv) ∙ get_or-set_same row w w k hw ∙ wv ∙ sym c))
        (λ c. rw (ne_eqb k u a, ne_eqb k v b, ne_eqb k (get_or row v v) c) (rest ∙ get_or-set_other row w k w k (λ z. c (z ∙ wv))))
        (same_or k (get_or row v v)))
        (same_or k v)) (same_or k u)

pub light_row_lem : (row : List ℕ) (x : Pair) (xs : List Pair) → x.first < length row → x.second < length row → partner_in row ≡ partner xs →
    partner_in (light_row row x.first x.second) ≡ partner (x ∷ xs)
unfolding partner
light_row_lem row x xs hu hv e = fun_ext at
  where
    u : ℕ
    u = x.first

    v : ℕ
    v = x.second

    r : List ℕ
    r = set row v u

    at : (k : ℕ) → partner_in (light_row row u v) k ≡ partner (x ∷ xs) k
    at k =
        ⊎_elim
        (λ a. rw (eq-eqb k u a) (ap (λ (z : ℕ). get_or (set r u v) z k) a ∙ get_or-set_same r u v k (omega (arith, length-set row v u))))
        (λ a.
        ⊎_elim
        (λ b.
        rw (ne_eqb k u a, eq-eqb k v b) (get_or-set_other r u k v k a ∙ ap (λ (z : ℕ). get_or r z k) b ∙ get_or-set_same row v u k hv))
        (λ b.
        rw (ne_eqb k u a, ne_eqb k v b) (get_or-set_other r u k v k a ∙ get_or-set_other row v k u k b ∙ ap (λ (p : ℕ → ℕ). p k) e))
        (same_or k v)) (same_or k u)

pub own_row : (row : List ℕ) → ((k : ℕ) → k < length row → get_or row k 0 ≡ k) → partner_in row ≡ partner []
unfolding partner
own_row row own =
    fun_ext
    (λ k.
    by_test (ltb k (length row)) (λ t. let h = ltb-true k (length row) t in row_partner row k h ∙ own k h)
    (λ t. get_or-eq_default row k (ltb-false k (length row) t)))
