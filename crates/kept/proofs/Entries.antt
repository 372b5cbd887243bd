-- The entries that the slots say, where slots are moved, passed and closed up.
--   entries_same, entries_length                  the same slots; as many entries as slots
--   slot_byte, slot_part, name_at                 a byte and a part of a slot, and its name, as they stand in the block
--   moved                                         a slot's bytes copied to another slot
--   passed_else                                   a slot passed that has another name
--   closing_start, closing_next                   no slot is passed; one more is
use mathlib.Core.Path.{◌≡◌, refl, sym, ap, ◌∙◌}
use mathlib.Core.Logic.{◌≢◌, inl, inr}
use mathlib.Core.List.{List, ◌∷◌}
use Prim.Native.Nat.{ℕ, zero, suc, ◌+◌, ◌≤◌, ◌<◌}
use native.Mathlib.Omega.{arith}
use native.Mathlib.Numerals.{add-one}
use borrow.Author.Tests.{ltb-true, ltb-false, ne_eqb}
use lib.Dec.{ltb}
use lib.ListN.{length, get_or, take, drop, length-take, length-drop}
use lib.Seq.{sets, get_or-take, get_or-drop, drop-drop}
use Rattle.formats.specs.Limits.{names_most}
use Rattle.counting.specs.Tests.{pick, keep}
use Rattle.counting.proofs.Booleans.{by_test}
use Rattle.counting.proofs.Parts.{part_front, part_outside, part_inside}
use Rattle.kept.specs.State.{is_named, without}
use Rattle.kept.specs.Block.{slots_at, slot_size, slot_at, block_size, kept_in, slot_of, named_in, entries_in}
use Rattle.kept.specs.Slots.{Moved, SlotPassed, Closing}

pub entries_same : (b c : List ℕ) (k : ℕ) → ((j : ℕ) → j < k → slot_of j c ≡ slot_of j b) → entries_in k c ≡ entries_in k b
unfolding entries_in
entries_same b c zero h = refl
entries_same b c (suc k) h = rw (h k (omega arith), entries_same b c k (λ j l. h j (omega arith)))

pub entries_length : (k : ℕ) (b : List ℕ) → length (entries_in k b) ≡ k
unfolding entries_in
entries_length zero b = refl
entries_length (suc k) b = ap suc (entries_length k b)

-- ONE SLOT
module _ (i : ℕ) (b : List ℕ) where
  pub slot_byte : (j : ℕ) → j < slot_size → get_or (slot_of i b) j 0 ≡ get_or b (slot_at i + j) 0
  slot_byte j h = get_or-take slot_size (drop (slot_at i) b) j 0 h ∙ get_or-drop (slot_at i) b j 0

  pub slot_part : (n a : ℕ) → a + n ≤ slot_size → take n (drop a (slot_of i b)) ≡ take n (drop (slot_at i + a) b)
  slot_part n a h = part_front n a slot_size (drop (slot_at i) b) h ∙ ap (take n) (drop-drop a (slot_at i) b)

  pub name_at : get_or (slot_of i b) 0 0 ≡ get_or b (slot_at i) 0
  name_at = let e : slot_at i + 0 ≡ slot_at i = omega arith in rw e at (slot_byte 0 (omega arith))

-- MOVED
module _ (b : List ℕ) {b' slot : List ℕ} (from to : ℕ) (bytes : b' ≡ sets b (slot_at to) slot) (copied : slot ≡ slot_of from b)
    (whole : length b ≡ block_size) (from_low : from < names_most) (to_low : to < names_most) where
  long : length slot ≡ slot_size
  long = rw copied (simp (length-take, length-drop) (omega arith))

  pub moved : Moved b from to b'
  moved =
      record {
        there = rw bytes ((rw long at (part_inside b (slot_at to) slot (omega (arith, long)))) ∙ copied);
        others =
            λ i h.
            rw bytes
            (part_outside slot_size (slot_at i) b (slot_at to) slot
            (by_test (ltb i to) (λ t. let l = ltb-true i to t in inl (omega arith)) (λ t. let l = ltb-false i to t in inr (omega (arith, long, h)))));
        front = rw bytes (part_outside slots_at 0 b (slot_at to) slot (inl (omega arith)));
      }

-- PASSED
pub passed_else : {b c : List ℕ} {i to : ℕ} (n : ℕ) → to ≤ i → get_or b (slot_at i) 0 ≢ n → Moved b i to c → SlotPassed b i to n c (to + 1)
unfolding entries_in
passed_else {b} {c} {i} {to} n h e m =
    let s : entries_in to c ≡ entries_in to b = entries_same b c to (λ j l. m.others j (λ q. omega arith)) in
    record {
      entries = rw (ne_eqb (get_or (slot_of i b) 0 0) n (λ q. e (sym (name_at i b) ∙ q)), add-one, m.there, s);
      later = λ j l. m.others j (λ q. omega arith);
      few = omega arith;
      front = m.front;
    }

-- CLOSED UP
pub closing_start : (b : List ℕ) (n : ℕ) → Closing b n b 0 0
unfolding entries_in keep
closing_start b n = record { within = omega arith; few = omega arith; entries = refl; later = λ j h. refl; front = refl }

pub closing_next : {b c d : List ℕ} {n i left next : ℕ} → Closing b n c i left → i < kept_in b → SlotPassed c i left n d next → Closing b n d (i + 1) next
unfolding entries_in keep
closing_next {b} {d = d} {n} {i} {next = next} p h q =
    let e : entries_in next d ≡ pick (is_named n (named_in i b)) (without n (entries_in i b)) (named_in i b ∷ without n (entries_in i b)) =
    rw (p.later i (omega arith), p.entries) at q.entries in
    record {
      within = omega arith;
      few = omega (arith, p.few, q.few);
      entries = rw add-one (e ∙ by_test (is_named n (named_in i b)) (λ t. rw t) (λ t. rw t));
      later = λ j l. q.later j (omega arith) ∙ p.later j (omega arith);
      front = q.front ∙ p.front;
    }
