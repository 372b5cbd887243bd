-- The state as the code holds it, in a block of bytes that the caller lends: four bytes of numbers, the fits by first and by second cameras, and eight
-- slots of 128 bytes, each a name, a number of pairs, and their first and second cameras. Slot 0 was kept first. A number above what there is room for
-- stands for that, so that any bytes are some state.
--   block_size                         the block's bytes
--   kept_at                            where the number of names stands
--   firsts_at, seconds_at, slots_at    where the fits' cameras and the slots begin
--   slot_size, pairs_at, others_at     a slot's bytes, and where the cameras of its pairs begin in it
--   slot_at i                          where slot i begins
--   cameras_in, fits_in, kept_in       the numbers
--   slot_of i b, slot_pairs s          the bytes of slot i; the pairs that a slot's bytes say
--   named_in i b                       the name and the pairs of slot i
--   entries_in k b                     those of slots 0 to k - 1, the last kept first
--   state_of b                         the state that a block stands for
--   Owes before k number after         what a call that may change the state owes: the number that is the definition's, the block of the state after the
--                                      call, and where it is refused every byte as it was
--   text_of b k, told_of b k           what a call writes, and what it tells: its number and that text's size
--   Returns block k buffer told after  what coming back owes: number and size, and that text at the buffer's front
--   Led before ks after                calls in a row, each given the block that the last one left
use Rattle.std.specs.Prelude.{◌≡◌, ◌≢◌, List, [], ◌∷◌, ℕ, zero, suc, ◌+◌, ◌*◌, min, length, get_or, take, drop}
use Rattle.formats.specs.Limits.{cameras_most, fits_most, names_most, pairs_most}
use Rattle.counting.specs.Pairs.{pairs_of}
use Rattle.counting.specs.declared.Pair.{Pair}
use Rattle.files.specs.Answers.{over}
use Rattle.lanes.specs.Entry.{Told, told}
use Rattle.kept.specs.State.{Named, State, KeptCall, fault_of, answer_of, after}

-- PLACES
abbrev pub kept_at : ℕ
kept_at = 3

abbrev pub firsts_at : ℕ
firsts_at = 4

abbrev pub seconds_at : ℕ
seconds_at = 3904

abbrev pub slots_at : ℕ
slots_at = 7804

abbrev pub slot_size : ℕ
slot_size = 128

abbrev pub block_size : ℕ
block_size = 8828

abbrev pub pairs_at : ℕ
pairs_at = 2

abbrev pub others_at : ℕ
others_at = 65

abbrev pub slot_at : (slot : ℕ) → ℕ
slot_at i = slots_at + slot_size * i

-- NUMBERS
abbrev pub cameras_in : (block : List ℕ) → ℕ
cameras_in b = min (get_or b 0 0) cameras_most

abbrev pub fits_in : (block : List ℕ) → ℕ
fits_in b = min (256 * get_or b 1 0 + get_or b 2 0) fits_most

abbrev pub kept_in : (block : List ℕ) → ℕ
kept_in b = min (get_or b kept_at 0) names_most

-- SLOTS
abbrev pub slot_of : (slot : ℕ) → (block : List ℕ) → List ℕ
slot_of i b = take slot_size (drop (slot_at i) b)

abbrev slot_pairs : (slot : List ℕ) → List Pair
slot_pairs s = pairs_of (get_or s 1 0) (take pairs_most (drop pairs_at s)) (take pairs_most (drop others_at s))

abbrev pub named_in : (slot : ℕ) → (block : List ℕ) → Named
named_in i b = record { name = get_or (slot_of i b) 0 0; pairs = slot_pairs (slot_of i b) }

unfoldable pub entries_in : (slots : ℕ) → (block : List ℕ) → List Named
entries_in zero b = []
entries_in (suc k) b = named_in k b ∷ entries_in k b

-- THE STATE
abbrev pub state_of : (block : List ℕ) → State
state_of b =
    record {
      cameras = cameras_in b;
      fits = pairs_of (fits_in b) (take fits_most (drop firsts_at b)) (take fits_most (drop seconds_at b));
      kept = entries_in (kept_in b) b;
    }

-- WHAT IS OWED
pub record Owes (before : List ℕ) (k : KeptCall) (number : ℕ) (then : List ℕ) : Type 0 where
  pub says : number ≡ fault_of (state_of before) k
  pub leaves : state_of then ≡ after (state_of before) k
  pub untouched : number ≢ 0 → then ≡ before

abbrev pub text_of : (block : List ℕ) → KeptCall → List ℕ
text_of b k = (answer_of (state_of b) k).text

abbrev pub told_of : (block : List ℕ) → KeptCall → Told
told_of b k = told (fault_of (state_of b) k) (length (text_of b k))

pub record Returns (block : List ℕ) (k : KeptCall) (buffer : List ℕ) (r : Told) (then : List ℕ) : Type 0 where
  pub tells : r ≡ told_of block k
  pub bytes : then ≡ over (text_of block k) buffer

unfoldable pub Led : (before : List ℕ) → List KeptCall → (then : List ℕ) → Type 0
Led b [] c = c ≡ b
Led b (k ∷ ks) c = (n : ℕ) × ((m : List ℕ) × (Owes b k n m × Led m ks c))
