-- What stands before the slots of a block: the numbers and the fits.
--   stock_put       a stock put there, and no name
--   kept_put        another number of names put there, over another block's front: its stock, and so many entries
use mathlib.Core.Path.{◌≡◌, sym, ap, ◌∙◌}
use mathlib.Core.Logic.{inr}
use mathlib.Core.List.{List, [], ◌∷◌}
use Prim.Native.Nat.{ℕ, ◌+◌, ◌*◌, ◌≤◌, ◌<◌}
use native.Mathlib.Omega.{arith}
use lib.ListN.{length, get_or, set, take, drop}
use lib.Seq.{sets, get_or-take, get_or-set_same, get_or-set_other}
use Rattle.formats.specs.Limits.{cameras_most, fits_most, names_most}
use Rattle.counting.specs.declared.Pair.{Pair}
use Rattle.counting.proofs.Parts.{part_front, part_set}
use Rattle.kept.specs.Block.{kept_at, firsts_at, seconds_at, slots_at, slot_size, slot_at, block_size, cameras_in, fits_in, kept_in, entries_in, state_of}
use Rattle.kept.specs.Columns.{ColumnsPut}
use Rattle.kept.specs.Slots.{front_of, StockPut, KeptPut}
use Rattle.kept.proofs.PairColumns.{header_back, pairs_back}
use Rattle.kept.proofs.Entries.{entries_same}

-- A STOCK
pub stock_put : (b : List ℕ) {b₁ b₂ : List ℕ} {fs : List Pair} (c high low : ℕ) → b₁ ≡ sets b 0 (c ∷ high ∷ low ∷ 0 ∷ []) →
    ColumnsPut b₁ firsts_at fits_most fs b₂ → 256 * high + low ≡ length fs → length b ≡ block_size → c ≤ cameras_most → length fs ≤ fits_most → StockPut c fs b₂
unfolding entries_in
stock_put b₀ {b₂ = b} {fs} c high low u v is whole few most =
    let byte = header_back b₀ 0 (c ∷ high ∷ low ∷ 0 ∷ []) u v most (omega arith) in
    let x : cameras_in b ≡ c = rw (byte 0 (omega arith)) (omega arith) in
    let y : fits_in b ≡ length fs = rw (byte 1 (omega arith), byte 2 (omega arith)) (omega arith) in
    let z : kept_in b ≡ 0 = rw (byte 3 (omega arith)) (omega arith) in
    rw (x, y, z, pairs_back b₀ 0 (c ∷ high ∷ low ∷ 0 ∷ []) u v most (omega arith))

-- THE NUMBER OF NAMES
module _ (b c : List ℕ) (same : front_of c ≡ front_of b) where
  byte_same : (i : ℕ) → i < slots_at → get_or c i 0 ≡ get_or b i 0
  byte_same i h = sym (get_or-take slots_at c i 0 h) ∙ ap (λ (xs : List ℕ). get_or xs i 0) same ∙ get_or-take slots_at b i 0 h

  part_same : (n a : ℕ) → a + n ≤ slots_at → take n (drop a c) ≡ take n (drop a b)
  part_same n a h = sym (part_front n a slots_at c h) ∙ ap (λ (xs : List ℕ). take n (drop a xs)) same ∙ part_front n a slots_at b h

  kept_set : (k : ℕ) → kept_at < length c → k ≤ names_most →
      state_of (set c kept_at k) ≡ record { cameras = (state_of b).cameras; fits = (state_of b).fits; kept = entries_in k c }
  kept_set k long few =
      let byte : (i : ℕ) → i < 3 → get_or (set c kept_at k) i 0 ≡ get_or b i 0 = λ i h.
      get_or-set_other c kept_at i k 0 (λ q. omega arith) ∙ byte_same i (omega arith) in
      let x = part_set fits_most firsts_at c kept_at k (inr (omega arith)) ∙ part_same fits_most firsts_at (omega arith) in
      let y = part_set fits_most seconds_at c kept_at k (inr (omega arith)) ∙ part_same fits_most seconds_at (omega arith) in
      let z : kept_in (set c kept_at k) ≡ k = rw (get_or-set_same c kept_at k 0 long) (omega arith) in
      let w = entries_same c (set c kept_at k) k (λ j h. part_set slot_size (slot_at j) c kept_at k (inr (omega arith))) in
      rw (byte 0 (omega arith), byte 1 (omega arith), byte 2 (omega arith), x, y, z, w)

  pub kept_put : {k : ℕ} {d : List ℕ} → KeptPut c k d → k ≤ names_most →
      state_of d ≡ record { cameras = (state_of b).cameras; fits = (state_of b).fits; kept = entries_in k c }
  kept_put {k} p few = ap state_of p.bytes ∙ kept_set k p.long few
