-- Bytes written one behind the other into a lent slice.
--   sets_over                           a run of stores at the front: what is stored, then what stood behind it (document 03's `over`)
--   hex_bytes_length                    digits: how many
--   two_value, four_value               what is read of a number that was written in two digits, and in four
--   frame4_length                       how many bytes a frame with one number takes
--   written_sizes                       for `using`: how long a list and its slice are behind frames written
--   frame_of4_parts                     a number of four digits is its upper two and its lower two
--   frame_length                        how many bytes a frame of so many numbers takes
--   FieldsWritten v kind fields i w     a frame written number by number: the kind and so many fields are
--   kind_written, field_written, frame_written    the kind is; one field more is; all are, and the line feed
--   frame_room                          there is room for the numbers left
use mathlib.Core.Path.{◌≡◌, refl, ap}
use mathlib.Core.List.{List, [], ◌∷◌, ◌++◌, append_assoc}
use Prim.Native.Nat.{ℕ, zero, suc, ◌+◌, ◌*◌, ◌-◌, ◌/◌, ◌%◌, ◌≤◌, ◌<◌}
use native.Mathlib.Omega.{arith}
use native.Mathlib.Numerals.{add-one}
use native.Mathlib.Nat.{zero-add}
use lib.Dec.{ltb}
use lib.ListN.{length, get_or, drop, length-append, length-drop, drop_of_length-le}
use lib.Seq.{sets, sets-eq, drop-cons}
use borrow.Author.Tests.{ltb-true, ltb-false, le-leb, lt-leb}
use Rattle.counting.proofs.Booleans.{by_test}
use Rattle.counting.specs.SliceVecs.{Extended, Extending}
use Rattle.counting.specs.declared.slice_vec.SliceVec.{SliceVec}
use Rattle.counting.proofs.SliceVecs.{extended_long, extending_start, extending_next, extending_end, extending_room}
use Rattle.frames.specs.Frames.{digit_of, hex_from, digit_byte, hex_bytes, frame_bytes, frame4, frame_of4}

-- ONE RUN BEHIND ANOTHER
pub sets_over : (xs l : List ℕ) → length xs ≤ length l → sets l 0 xs ≡ xs ++ drop (length xs) l
sets_over xs l h = let e = sets-eq xs l 0 (omega arith) in rw zero-add at e

-- HOW MANY BYTES
pub hex_bytes_length : (n v : ℕ) → length (hex_bytes n v) ≡ n
unfolding hex_bytes
hex_bytes_length zero v = refl
hex_bytes_length (suc n) v = rw (length-append, hex_bytes_length n (v / 16)) (omega arith)

pub frame4_length : (k a : ℕ) → length (frame4 k a) ≡ 5
frame4_length k a = simp (length-append, hex_bytes_length)

-- for `#[tactic(auto, using(..))]` on a function that writes one frame behind another
pub ruleset written_sizes = (hex_bytes_length, length-append, extended_long)

-- DIGITS
digit_value : (d : ℕ) → d < 16 → digit_of (digit_byte d) ≡ d
digit_value d h =
    by_test (ltb d 10) (λ s. let k = ltb-true d 10 s in rw (s, le-leb (48 + d) 57 (omega arith)) (omega arith))
    (λ s. let k = ltb-false d 10 s in rw (s, lt-leb (55 + d) 57 (omega arith)) (omega arith))

pub two_value : (x : ℕ) → x < 256 → hex_from 0 (hex_bytes 2 x) ≡ x
unfolding hex_bytes hex_from
two_value x h =
    let a = digit_value (x / 16 % 16) (omega arith) in
    let b = digit_value (x % 16) (omega arith) in
    rw (a, b) (omega arith)

pub four_value : (x : ℕ) → x < 65536 → hex_from 0 (hex_bytes 4 x) ≡ x
unfolding hex_bytes hex_from
four_value x h =
    let a = digit_value (x / 16 / 16 / 16 % 16) (omega arith) in
    let b = digit_value (x / 16 / 16 % 16) (omega arith) in
    let c = digit_value (x / 16 % 16) (omega arith) in
    let d = digit_value (x % 16) (omega arith) in
    rw (a, b, c, d) (omega arith)

-- A NUMBER of four digits is written as two of two
hex_bytes_split : (v : ℕ) → hex_bytes 2 (v / 256) ++ hex_bytes 2 v ≡ hex_bytes 4 v
unfolding hex_bytes
hex_bytes_split v =
    let d : v / 256 / 16 ≡ v / 16 / 16 / 16 = omega arith in
    let e : v / 256 ≡ v / 16 / 16 = omega arith in
    rw (d, e)

pub frame_of4_parts : (k v : ℕ) → frame_bytes (k ∷ v / 256 ∷ v ∷ []) ≡ frame_of4 k v
frame_of4_parts k v = rw (← hex_bytes_split v) (simp append_assoc)

-- A FRAME, number by number
pub frame_length : (xs : List ℕ) → length (frame_bytes xs) ≡ 2 * length xs + 1
frame_length [] = refl
frame_length (x ∷ xs) = rw (length-append, hex_bytes_length 2 x, frame_length xs) (omega arith)

-- the kind and so many fields are written; what is left is the others and the line feed
pub record FieldsWritten (v : SliceVec ℕ) (kind : ℕ) (fields : List ℕ) (i : ℕ) (w : SliceVec ℕ) : Type 0 where
  pub stores : Extending v (frame_bytes (kind ∷ fields)) w (frame_bytes (drop i fields))

pub kind_written : {v w : SliceVec ℕ} (k : ℕ) (fields : List ℕ) → Extended v (hex_bytes 2 k) w → FieldsWritten v k fields 0 w
kind_written {v} k fields x = record { stores = extending_next (extending_start v (frame_bytes (k ∷ fields))) (hex_bytes 2 k) refl x }

module _ {v : SliceVec ℕ} {kind : ℕ} {fields : List ℕ} {i : ℕ} {w : SliceVec ℕ} (h : FieldsWritten v kind fields i w) where
  pub frame_room : v.len + (2 * length fields + 3) ≤ length v.slice.now → w.len + (2 * (length fields - i) + 1) ≤ length w.slice.now
  frame_room room =
      let r = extending_room h.stores (omega (arith, room, frame_length (kind ∷ fields))) in
      omega (arith, r, frame_length (drop i fields), length-drop i fields)

  pub field_written : {w' : SliceVec ℕ} → i < length fields → Extended w (hex_bytes 2 (get_or fields i 0)) w' → FieldsWritten v kind fields (i + 1) w'
  field_written l x =
      let n = get_or fields i 0 in
      let e : drop i fields ≡ n ∷ drop (i + 1) fields = rw add-one (drop-cons fields i 0 l) in
      record { stores = extending_next h.stores (hex_bytes 2 n) (ap frame_bytes e) x }

  pub frame_written : {w' : SliceVec ℕ} → length fields ≤ i → Extended w (10 ∷ []) w' → Extended v (frame_bytes (kind ∷ fields)) w'
  frame_written l x = extending_end (extending_next h.stores (10 ∷ []) (ap frame_bytes (drop_of_length-le fields l)) x) refl
