-- Files that begin with a text.
--   begins_split, begins_joined    a file that does is the text and what stands behind it
--   by_first_line                what holds of every file that begins with a barrier's first line, ended either way
--   digit_byte, barrier_digits   which byte a digit below ten is; the two digits of a barrier's kind
--   header_begins                a whole file with a barrier's header begins with the barrier's first line
--   begins_header                so for a whole file the two are one question, question 4
use mathlib.Core.Path.{◌≡◌, refl, ap, sym, subst, ◌∙◌}
use mathlib.Core.Logic.{◌⊎◌, inl, inr, ⊎_elim}
use mathlib.Core.Bool.{true, false, ◌&&◌}
use mathlib.Core.List.{List, [], ◌∷◌, ◌++◌}
use Prim.Native.Nat.{ℕ, suc, ◌+◌, ◌*◌, ◌-◌, ◌%◌, ◌≤◌, ◌<◌}
use native.Mathlib.Omega.{arith}
use lib.Dec.{leb, ltb, eqb}
use lib.ListN.{length, get_or, drop}
use lib.Seq.{drop-cons, get_or-take}
use borrow.Author.Tests.{eqb-true, leb-true, lt-leb, lt-ltb, ltb-true}
use Rattle.std.specs.List.{starts_with}
use Rattle.std.proofs.lemmas.Bool.Decides.{Decides-eqb}
use Rattle.std.proofs.lemmas.Slice.Eq.{starts_is}
use Rattle.counting.specs.Tests.{all}
use Rattle.counting.proofs.Booleans.{and_left, and_right, and_two, or_right, or_cases, by_test, true_false}
use Rattle.counting.proofs.Membership.{all_get_d}
use Rattle.frames.specs.Frames.{is_in, is_digit, digit_of, lines_of, ends_whole, is_frame, is_whole_file, hex_from, hex_at, barrier_form, is_frame_of, first_line, has_header}
use Rattle.frames.specs.Lines.{line_end, line_length, part, LineAt}
use Rattle.frames.specs.Writes.{barrier_line, barrier_line_cr_lf, begins_barrier}
use Rattle.frames.proofs.LineEnds.{byte_inside, end_bytes}
use Rattle.frames.proofs.LinePlaces.{line_here, lines_here, ends_here, part_length}
use Rattle.frames.proofs.HexNumbers.{hex_two, hex_part, digit_small}

begins_split : (text f : List ℕ) → starts_with eqb f text ≡ true → f ≡ text ++ drop (length text) f
begins_split text f h = (starts_is Decides-eqb f text _ refl).0 h

begins_joined : (text f : List ℕ) → f ≡ text ++ drop (length text) f → starts_with eqb f text ≡ true
begins_joined text f e = (starts_is Decides-eqb f text _ refl).1 (drop (length text) f) e

-- what holds of every file that begins with the barrier's first line, ended either way
pub by_first_line : (f : List ℕ) → begins_barrier f ≡ true → (P : List ℕ → Type 0) → ((rest : List ℕ) → P (barrier_line ++ rest)) →
    ((rest : List ℕ) → P (barrier_line_cr_lf ++ rest)) → P f
by_first_line f b P p q =
    ⊎_elim (λ t. subst P (sym (begins_split barrier_line f t)) (p (drop 3 f))) (λ t. subst P (sym (begins_split barrier_line_cr_lf f t)) (q (drop 4 f)))
    (or_cases (starts_with eqb f barrier_line) (starts_with eqb f barrier_line_cr_lf) b)

-- DIGITS of a kind
digit_byte : (c v : ℕ) → is_digit c ≡ true → digit_of c ≡ v → v < 10 → c ≡ 48 + v
digit_byte c v d e h = go (or_cases (is_in 48 57 c) (is_in 65 70 c) d)
  where
    go : (is_in 48 57 c ≡ true) ⊎ (is_in 65 70 c ≡ true) → c ≡ 48 + v
    go (inl p) =
        let r = and_two (leb 48 c) (leb c 57) p in
        let low : 48 ≤ c = leb-true _ _ r.0 in
        let w : c - 48 ≡ v = rw r.1 at e in
        omega arith
    go (inr p) =
        let low : 65 ≤ c = leb-true _ _ (and_left (leb 65 c) (leb c 70) p) in
        let z : leb c 57 ≡ false = lt-leb c 57 (omega arith) in
        let w : c - 55 ≡ v = rw z at e in
        absurd (omega arith)

barrier_digits : (c d : ℕ) → is_digit c ≡ true → is_digit d ≡ true → 16 * digit_of c + digit_of d ≡ 49 → (c ≡ 51) × (d ≡ 49)
barrier_digits c d p q e =
    let x = digit_small c p in
    let y = digit_small d q in
    (digit_byte c 3 p (omega arith) (omega arith), digit_byte d 1 q (omega arith) (omega arith))

-- THE HEADER of a barrier
module _ (f : List ℕ) (whole : is_whole_file f ≡ true) (some : 0 < length f) (head : is_frame_of 49 0 (first_line f) ≡ true) where
  end : ℕ
  end = line_length f

  next : ℕ
  next = end + line_end (drop end f)

  line : LineAt f 0 end next
  unfolding end next
  line = line_here f 0 end next some (omega arith) refl

  first : first_line f ≡ part 0 end f
  first = ap (λ (ls : List (List ℕ)). get_or ls 0 []) (lines_here line)

  size : end ≡ 2
  size =
      let a = part_length 0 end f (omega (arith, line)) in
      let b : length (first_line f) ≡ 2 = eqb-true _ _ (and_right (eqb (hex_at 0 2 (first_line f)) 49) _ head) in
      let c : length (first_line f) ≡ length (part 0 end f) = ap length first in
      omega arith

  digit : (i : ℕ) → i < 2 → is_digit (get_or f i 0) ≡ true
  unfolding all
  digit i h =
      let a = part_length 0 end f (omega (arith, line)) in
      let z = size in
      let w = and_right (ends_whole f) (all is_frame (lines_of f)) whole in
      let u = and_left (is_frame (part 0 end f)) (all is_frame (lines_of (drop next f))) (rw (lines_here line) at w) in
      let d = and_right (ltb 0 (length (part 0 end f)) && eqb (length (part 0 end f) % 2) 0) (all is_digit (part 0 end f)) u in
      let g = all_get_d is_digit (part 0 end f) 0 i d (omega arith) in
      rw (get_or-take (end - 0) f i 0 (omega arith)) at g

  number : 16 * digit_of (get_or f 0 0) + digit_of (get_or f 1 0) ≡ 49
  number =
      let z = size in
      let l = line.high in
      let e : hex_at 0 2 (first_line f) ≡ 49 = eqb-true _ _ (and_left (eqb (hex_at 0 2 (first_line f)) 49) _ head) in
      sym (hex_two 0 f (omega (arith, line.past))) ∙ sym (hex_part 0 2 0 end f (omega arith)) ∙ ap (hex_at 0 2) (sym first) ∙ e

  more : end < next
  more =
      let e = rw (ends_here line) at (and_left (ends_whole f) (all is_frame (lines_of f)) whole) in
      let m : 0 < next - end = ltb-true _ _ (and_left (ltb 0 (next - end)) (ends_whole (drop next f)) e) in
      omega arith

  ended : 0 < line_end (drop end f)
  unfolding next
  ended = omega (arith, more)

  kind : (get_or f 0 0 ≡ 51) × (get_or f 1 0 ≡ 49)
  kind = barrier_digits (get_or f 0 0) (get_or f 1 0) (digit 0 (omega arith)) (digit 1 (omega arith)) number

  -- behind the kind stands a line feed, or a carriage return and a line feed
  header_feed : get_or f 2 0 ≡ 10 → starts_with eqb f barrier_line ≡ true
  header_feed e =
      let l : 2 < length f = omega (arith, size, more, line.high) in
      let a = drop-cons f 0 0 (omega arith) in
      let b = drop-cons f 1 0 (omega arith) in
      let c = drop-cons f 2 0 l in
      let k = kind in
      begins_joined barrier_line f cc

  header_both : get_or f 2 0 ≡ 13 → get_or f 3 0 ≡ 10 → starts_with eqb f barrier_line_cr_lf ≡ true
  header_both e g =
      let l : 3 < length f = byte_inside f 3 (λ z. absurd (omega arith)) in
      let a = drop-cons f 0 0 (omega arith) in
      let b = drop-cons f 1 0 (omega arith) in
      let c = drop-cons f 2 0 (omega arith) in
      let d = drop-cons f 3 0 l in
      let k = kind in
      begins_joined barrier_line_cr_lf f cc

  header_begins : begins_barrier f ≡ true
  header_begins =
      let e : 0 < line_end (drop 2 f) = rw size at ended in
      ⊎_elim (λ t. rw (header_feed t))
      (λ t. or_right (starts_with eqb f barrier_line) (starts_with eqb f barrier_line_cr_lf) (header_both t.0 t.1)) (end_bytes f 2 e)

lines_none : (f : List ℕ) → 0 < length (lines_of f) → 0 < length f
unfolding lines_of
lines_none [] h = h
lines_none (c ∷ cs) h = omega arith

has_feed : (rest : List ℕ) → has_header barrier_form (barrier_line ++ rest) ≡ true
unfolding lines_of hex_from
has_feed rest = rw (lt-ltb 0 (suc (length (lines_of rest))) (omega arith))

has_both : (rest : List ℕ) → has_header barrier_form (barrier_line_cr_lf ++ rest) ≡ true
unfolding lines_of hex_from
has_both rest = rw (lt-ltb 0 (suc (length (lines_of rest))) (omega arith))

pub begins_header : (f : List ℕ) → is_whole_file f ≡ true → begins_barrier f ≡ has_header barrier_form f
begins_header f w =
    by_test (begins_barrier f)
    (λ b.
    b ∙ sym
    (by_first_line f b (λ (g : List ℕ). has_header barrier_form g ≡ true) has_feed has_both))
    (λ b.
    by_test (has_header barrier_form f)
    (λ h.
    let r = and_two (ltb 0 (length (lines_of f))) (is_frame_of 49 0 (first_line f)) h in
    true_false (header_begins f w (lines_none f (ltb-true _ _ r.0)) r.1) b)
    (λ h. b ∙ sym h))
