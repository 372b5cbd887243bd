-- A slot filled with a name and its pairs, and its pairs written; pairs kept under a name.
--   pairs_put                    a slot filled
--   pairs_written                its pairs written as a plan
--   place_left                   a slot is left for a name that question 19 lets pass
--   stored_none, stored_in       refused; pairs kept
use mathlib.Core.Path.{◌≡◌, refl, sym, ap, ◌∙◌}
use mathlib.Core.Logic.{◌≢◌}
use mathlib.Core.List.{List, [], ◌∷◌}
use Prim.Native.Nat.{ℕ, ◌+◌, ◌≤◌, ◌<◌, min}
use native.Mathlib.Omega.{arith}
use native.Mathlib.Numerals.{add-one}
use lib.ListN.{length, get_or, take, drop}
use lib.Seq.{sets}
use Rattle.formats.specs.Limits.{names_most, pairs_most, room}
use Rattle.counting.specs.Pairs.{pairs_of}
use Rattle.counting.specs.declared.Pair.{Pair}
use Rattle.files.specs.StockFile.{plan_text}
use Rattle.files.specs.Answers.{WrittenFirst}
use Rattle.files.proofs.AnswerLines.{plan_size}
use Rattle.kept.specs.State.{without, place_fault}
use Rattle.kept.specs.Block.{slots_at, slot_size, slot_at, block_size, pairs_at, others_at, kept_in, slot_of, named_in, entries_in, state_of}
use Rattle.kept.specs.Columns.{column_pairs, ColumnsPut}
use Rattle.kept.specs.Slots.{KeptPut, ClosedUp, PairsPut, Stored}
use Rattle.kept.proofs.PairColumns.{columns_few, columns_most, columns_after, header_back, pairs_back}
use Rattle.kept.proofs.Entries.{entries_same, entries_length, slot_byte, slot_part}
use Rattle.kept.proofs.ByName.{placed_few}
use Rattle.kept.proofs.Fronts.{kept_put}

-- THE PAIRS OF A SLOT
slot_columns : (i : ℕ) (b : List ℕ) (n : ℕ) →
    pairs_of n (take pairs_most (drop pairs_at (slot_of i b))) (take pairs_most (drop others_at (slot_of i b))) ≡
    column_pairs (slot_at i + pairs_at) pairs_most n b
slot_columns i b n =
    let e : slot_at i + others_at ≡ slot_at i + pairs_at + pairs_most = omega arith in
    rw (slot_part i b pairs_most pairs_at (omega arith), slot_part i b pairs_most others_at (omega arith), e)

-- A SLOT FILLED
pub pairs_put : (b : List ℕ) (to n : ℕ) {b₁ b₂ : List ℕ} (ps : List Pair) → b₁ ≡ sets b (slot_at to) (n ∷ length ps ∷ []) →
    ColumnsPut b₁ (slot_at to + pairs_at) pairs_most ps b₂ → length b ≡ block_size → to < names_most → length ps ≤ pairs_most → PairsPut b to n ps b₂
unfolding entries_in
pairs_put b to n {b₂ = b₂} ps u v whole low few =
    let header = n ∷ length ps ∷ [] in
    let byte = header_back b (slot_at to) header u v few (omega arith) in
    let x : get_or (slot_of to b₂) 0 0 ≡ n = slot_byte to b₂ 0 (omega arith) ∙ byte 0 (omega arith) in
    let y : get_or (slot_of to b₂) 1 0 ≡ length ps = slot_byte to b₂ 1 (omega arith) ∙ byte 1 (omega arith) in
    let e : named_in to b₂ ≡ record { name = n; pairs = ps } = rw (x, y, slot_columns to b₂ (length ps), pairs_back b (slot_at to) header u v few (omega arith)) in
    let s = entries_same b b₂ to (λ j h. columns_after b (slot_at to) header u v slot_size (slot_at j) (omega arith)) in
    record { entries = rw (e, s); front = columns_after b (slot_at to) header u v slots_at 0 (omega arith) }

-- ITS PAIRS WRITTEN
pub pairs_written : (i : ℕ) (b : List ℕ) {k r : ℕ} {ps : List Pair} {out out' : List ℕ} → k ≡ min (get_or b (slot_at i + 1) 0) pairs_most →
    ps ≡ column_pairs (slot_at i + pairs_at) pairs_most k b → WrittenFirst (plan_text ps) out out' r →
    WrittenFirst (plan_text (named_in i b).pairs) out out' r × (r ≤ room)
pairs_written i b {k} {r} {ps} f pairs w =
    let at = slot_at i + pairs_at in
    let n = get_or b (slot_at i + 1) 0 in
    let same : column_pairs at pairs_most k b ≡ (named_in i b).pairs =
    rw (f, columns_most at pairs_most n b, slot_byte i b 1 (omega arith)) (sym (slot_columns i b n)) in
    let few : length ps ≤ k = rw pairs (columns_few at pairs_most k b (omega arith)) in
    (rw (pairs ∙ same) at w, omega (arith, f, few, w.told, plan_size ps))

-- PAIRS KEPT
module _ (b : List ℕ) (n : ℕ) where
  pub place_left : {c : List ℕ} {left : ℕ} → place_fault (state_of b) n ≡ 0 → ClosedUp b n c left → left < names_most
  place_left {c} {left} none closed =
      let placed = placed_few (state_of b) n (omega (arith, entries_length (kept_in b) b)) none in
      let same : left ≡ length (without n (state_of b).kept) = sym (entries_length left c) ∙ ap length closed.entries in
      omega arith

  pub stored_none : {ps : List Pair} {number : ℕ} → number ≡ place_fault (state_of b) n → number ≢ 0 → Stored b n ps number b
  stored_none e h = record { says = e; leaves = λ z. absurd (h z); untouched = λ _. refl }

  pub stored_in : {ps : List Pair} {c d e : List ℕ} {left : ℕ} → place_fault (state_of b) n ≡ 0 → ClosedUp b n c left → PairsPut c left n ps d →
      KeptPut d (left + 1) e → Stored b n ps 0 e
  stored_in {d = d} {left = left} none closed put number =
      let few : left + 1 ≤ names_most = omega (arith, place_left none closed) in
      record {
        says = sym none;
        leaves = λ z. kept_put b d (put.front ∙ closed.front) number few ∙ rw (add-one, put.entries, closed.entries);
        untouched = λ z. absurd (z refl);
      }
