-- What is done to a block part by part (Block has its parts).
--   front_of b                     what stands before the slots: the numbers and the fits
--   StockPut c fs b                a block with this stock, and no name
--   KeptPut b k b'                 another number of names, and nothing else differs
--   Moved b from to b'             a slot's bytes stand in another slot too, and nothing else differs
--   SlotPassed b i to n b' left    slot i is passed: dropped where it has the name, and otherwise moved to slot `to`
--   Closing b n b' i left          the first i of the slots that are in use are passed
--   ClosedUp b n b' left           all of them are: those that have another name are left, closed up
--   PairsPut b to n ps b'          a name and its pairs stand in a slot, and the slots below it as they were
--   NameFound b n r                r is the slot that was kept last under a name, none where the name is not kept
--   Stored b n ps number b'        pairs kept under a name; or 19, and every byte as it was
use Rattle.std.specs.Prelude.{◌≡◌, ◌≢◌, true, false, Option, Some, None, List, [], ◌∷◌, ℕ, suc, ◌≤◌, ◌<◌, length, set, take}
use Rattle.counting.specs.Tests.{pick}
use Rattle.counting.specs.declared.Pair.{Pair}
use Rattle.kept.specs.State.{is_named, is_kept, without, pairs_under, place_fault}
use Rattle.kept.specs.declared.slot.Slot.{Slot}
use Rattle.kept.specs.Block.{kept_at, slots_at, kept_in, slot_of, named_in, entries_in, state_of}

abbrev pub front_of : (block : List ℕ) → List ℕ
front_of b = take slots_at b

abbrev pub StockPut : (cameras : ℕ) → (fits : List Pair) → (block : List ℕ) → Type 0
StockPut c fs b = state_of b ≡ record { cameras = c; fits = fs; kept = [] }

pub record KeptPut (b : List ℕ) (k : ℕ) (then : List ℕ) : Type 0 where
  pub bytes : then ≡ set b kept_at k
  pub long : kept_at < length b

pub record Moved (b : List ℕ) (from to : ℕ) (then : List ℕ) : Type 0 where
  pub there : slot_of to then ≡ slot_of from b
  pub others : (i : ℕ) → i ≢ to → slot_of i then ≡ slot_of i b
  pub front : front_of then ≡ front_of b

pub record SlotPassed (b : List ℕ) (i to n : ℕ) (then : List ℕ) (left : ℕ) : Type 0 where
  pub entries : entries_in left then ≡ pick (is_named n (named_in i b)) (entries_in to b) (named_in i b ∷ entries_in to b)
  pub later : (j : ℕ) → i < j → slot_of j then ≡ slot_of j b
  pub few : left ≤ suc to
  pub front : front_of then ≡ front_of b

pub record Closing (b : List ℕ) (n : ℕ) (then : List ℕ) (i left : ℕ) : Type 0 where
  pub within : i ≤ kept_in b
  pub few : left ≤ i
  pub entries : entries_in left then ≡ without n (entries_in i b)
  pub later : (j : ℕ) → i ≤ j → slot_of j then ≡ slot_of j b
  pub front : front_of then ≡ front_of b

pub record ClosedUp (b : List ℕ) (n : ℕ) (then : List ℕ) (left : ℕ) : Type 0 where
  pub entries : entries_in left then ≡ without n (state_of b).kept
  pub few : left ≤ kept_in b
  pub front : front_of then ≡ front_of b

pub record PairsPut (b : List ℕ) (to n : ℕ) (ps : List Pair) (then : List ℕ) : Type 0 where
  pub entries : entries_in (suc to) then ≡ record { name = n; pairs = ps } ∷ entries_in to b
  pub front : front_of then ≡ front_of b

abbrev pub NameFound : (block : List ℕ) → (name : ℕ) → (found : Option Slot) → Type 0
NameFound b n None = is_kept (state_of b) n ≡ false
NameFound b n (Some s) = (s.number < kept_in b) × (is_kept (state_of b) n ≡ true) × (pairs_under n (state_of b).kept ≡ (named_in s.number b).pairs)

pub record Stored (b : List ℕ) (n : ℕ) (ps : List Pair) (number : ℕ) (then : List ℕ) : Type 0 where
  pub says : number ≡ place_fault (state_of b) n
  pub leaves : number ≡ 0 →
      state_of then ≡ record { cameras = (state_of b).cameras; fits = (state_of b).fits; kept = record { name = n; pairs = ps } ∷ without n (state_of b).kept }
  pub untouched : number ≢ 0 → then ≡ b
