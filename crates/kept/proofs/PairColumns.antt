-- Pairs in two columns of one size, read and written; behind a header, as a stock and a slot have them.
--   Putting b at most ps b' i       with the pairs from i on put too, all of them stand in the columns
--   putting_next, putting_end       one pair more; all of them
--   column_parts, columns_few       the columns as slices are taken; how many pairs they say at most
--   columns_most                    a number of pairs above what the columns have room for stands for that
--   columns_after                   behind a header: what stands before it stays
--   header_back, pairs_back         a number of the header, and the pairs, read back
use mathlib.Core.Path.{◌≡◌, refl, ap, ◌∙◌}
use mathlib.Core.Logic.{inl}
use mathlib.Core.List.{List, [], ◌∷◌}
use Prim.Native.Nat.{ℕ, suc, ◌+◌, ◌-◌, ◌≤◌, ◌<◌, min}
use native.Mathlib.Omega.{arith}
use native.Mathlib.Numerals.{add-one}
use lib.ListN.{length, get_or, set, take, drop, length-take, length-drop, drop_of_length-le}
use lib.Seq.{sets, drop-cons, length-sets, take-take, set_comm}
use Rattle.counting.specs.Pairs.{no_pair, firsts_of, seconds_of, zip_pairs, pairs_of}
use Rattle.counting.specs.declared.Pair.{Pair}
use Rattle.counting.proofs.Zips.{firsts_length, seconds_length, zip_low, zip_ends}
use Rattle.counting.proofs.Stores.{get_d_sets_out, get_d_sets_in}
use Rattle.counting.proofs.Parts.{take_twice, part_outside, part_inside}
use Rattle.frames.specs.Lines.{part}
use Rattle.kept.specs.Columns.{column_pairs, ColumnsPut}

-- PAIR BY PAIR: with the pairs that are left put too, all of them stand in the columns
pub record Putting (b : List ℕ) (at most : ℕ) (ps : List Pair) (then : List ℕ) (i : ℕ) : Type 0 where
  pub rest : sets (sets then (at + i) (firsts_of (drop i ps))) (at + most + i) (seconds_of (drop i ps)) ≡
      sets (sets b at (firsts_of ps)) (at + most) (seconds_of ps)

-- a byte behind a run of bytes
set_sets : (l : List ℕ) (j x i : ℕ) (xs : List ℕ) → i + length xs ≤ j → set (sets l i xs) j x ≡ sets (set l j x) i xs
set_sets l j x i [] h = refl
set_sets l j x i (y ∷ ys) h =
    set_sets (set l i y) j x (suc i) ys (omega arith) ∙ ap (λ (m : List ℕ). sets m (suc i) ys) (set_comm l i j y x (λ q. omega arith))

module _ {b c : List ℕ} {at most i : ℕ} {ps : List Pair} (P : Putting b at most ps c i) where
  pub putting_next : (x : Pair) → i < length ps → length ps ≤ most → x ≡ get_or ps i no_pair →
      Putting b at most ps (set (set c (at + i) x.first) (at + most + i) x.second) (i + 1)
  unfolding firsts_of seconds_of
  putting_next x h few e =
      let f : at + suc i ≡ suc (at + i) = omega arith in
      let s : at + most + suc i ≡ suc (at + most + i) = omega arith in
      let p = get_or ps i no_pair in
      let left = drop (suc i) ps in
      let behind : suc (at + i) + length (firsts_of left) ≤ at + most + i = omega (arith, firsts_length left, length-drop (suc i) ps) in
      let apart = set_sets (set c (at + i) p.first) (at + most + i) p.second (suc (at + i)) (firsts_of left) behind in
      record { rest = rw (add-one, f, s, e, ← apart) (rw (drop-cons ps i no_pair h) at P.rest) }

  pub putting_end : length ps ≤ i → ColumnsPut b at most ps c
  unfolding firsts_of seconds_of
  putting_end h = record { bytes = rw (drop_of_length-le ps h) at P.rest }

-- READ
module _ (at most n : ℕ) (b : List ℕ) (few : n ≤ most) where
  pub column_parts : zip_pairs (part at (at + n) b) (part (at + most) (at + most + n) b) ≡ column_pairs at most n b
  column_parts =
      let e : (at + n) - at ≡ n = omega arith in
      let f : (at + most + n) - (at + most) ≡ n = omega arith in
      rw (e, f, take-take n most (drop at b) few, take-take n most (drop (at + most) b) few)

  pub columns_few : length (column_pairs at most n b) ≤ n
  columns_few = omega (arith, (zip_low (take n (take most (drop at b))) (take n (take most (drop (at + most) b)))).0, length-take n (take most (drop at b)))

pub columns_most : (at most n : ℕ) (b : List ℕ) → column_pairs at most (min n most) b ≡ column_pairs at most n b
columns_most at most n b =
    let h : min n most ≤ most = omega arith in
    let xs = drop at b in
    let ys = drop (at + most) b in
    rw (take-take (min n most) most xs h, take-take (min n most) most ys h, take_twice n most xs, take_twice n most ys)

-- READ BACK
module _ (b : List ℕ) (at : ℕ) (hs : List ℕ) {most : ℕ} {b₁ b₂ : List ℕ} {ps : List Pair} (u : b₁ ≡ sets b at hs)
    (v : ColumnsPut b₁ (at + length hs) most ps b₂) where
  pub columns_after : (m a : ℕ) → a + m ≤ at → take m (drop a b₂) ≡ take m (drop a b)
  columns_after m a h =
      rw (v.bytes, u)
      (part_outside m a (sets (sets b at hs) (at + length hs) (firsts_of ps)) (at + length hs + most) (seconds_of ps) (inl (omega arith)) ∙
      part_outside m a (sets b at hs) (at + length hs) (firsts_of ps) (inl (omega arith)) ∙ part_outside m a b at hs (inl h))

  module _ (few : length ps ≤ most) (fit : at + length hs + most + most ≤ length b) where
    pub header_back : (i : ℕ) → i < length hs → get_or b₂ (at + i) 0 ≡ get_or hs i 0
    header_back i h =
        rw (v.bytes, u)
        (get_d_sets_out (sets (sets b at hs) (at + length hs) (firsts_of ps)) (at + length hs + most) (at + i) (seconds_of ps) (inl (omega arith)) ∙
        get_d_sets_out (sets b at hs) (at + length hs) (at + i) (firsts_of ps) (inl (omega arith)) ∙ get_d_sets_in b at i hs h (omega arith))

    first_back : take (length ps) (take most (drop (at + length hs) b₂)) ≡ firsts_of ps
    first_back =
        let l = firsts_length ps in
        take-take (length ps) most (drop (at + length hs) b₂) few ∙
        (rw (v.bytes, u)
        (part_outside (length ps) (at + length hs) (sets (sets b at hs) (at + length hs) (firsts_of ps)) (at + length hs + most) (seconds_of ps)
        (inl (omega arith)) ∙
        (rw l at (part_inside (sets b at hs) (at + length hs) (firsts_of ps) (omega (arith, l, length-sets b at hs))))))

    second_back : take (length ps) (take most (drop (at + length hs + most) b₂)) ≡ seconds_of ps
    second_back =
        let l = seconds_length ps in
        take-take (length ps) most (drop (at + length hs + most) b₂) few ∙
        (rw (v.bytes, u)
        (rw l at (part_inside (sets (sets b at hs) (at + length hs) (firsts_of ps)) (at + length hs + most) (seconds_of ps)
        (omega (arith, l, length-sets (sets b at hs) (at + length hs) (firsts_of ps), length-sets b at hs)))))

    pub pairs_back : pairs_of (length ps) (take most (drop (at + length hs) b₂)) (take most (drop (at + length hs + most) b₂)) ≡ ps
    pairs_back = rw (first_back, second_back) (zip_ends ps)
