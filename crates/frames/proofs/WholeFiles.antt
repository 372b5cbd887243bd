-- Question 3, line by line: is a file whole lines, each a positive even number of digits?
--   DigitsUpTo f at i                        digits of one line stand from `at` up to i
--   digits_start, digits_next                so at a line's first byte, past a digit
--   whole_next                               what is left past a line that is whole
--   fails_other, fails_empty, fails_odd      a line that is not: another byte or no line end, nothing, an odd number of digits
--   whole_end, whole_fails                   the answers, at the file's end and at a line that is not whole
use mathlib.Core.Path.{◌≡◌, refl, sym, ◌∙◌}
use mathlib.Core.Logic.{◌≢◌}
use mathlib.Core.Bool.{Bool, true, false, ◌&&◌, and-false}
use mathlib.Core.List.{List, [], ◌∷◌}
use Prim.Native.Nat.{ℕ, suc, ◌+◌, ◌-◌, ◌%◌, ◌≤◌, ◌<◌}
use native.Mathlib.Omega.{arith}
use lib.Dec.{ltb, eqb}
use lib.ListN.{length, get_or, drop, length-drop}
use lib.Seq.{drop-cons, take-suc, drop-length, get_or-take, get_or-drop}
use borrow.Author.Tests.{lt-ltb, le-ltb, ltb-true, ltb-false, eq-eqb, ne_eqb}
use Rattle.counting.specs.Tests.{all}
use Rattle.counting.proofs.Booleans.{and_both, by_test, true_false}
use Rattle.counting.proofs.Membership.{all_get_d, all_append}
use Rattle.frames.specs.Frames.{is_digit, is_frame, lines_of, ends_whole, is_whole_file}
use Rattle.frames.specs.Lines.{line_end, line_length, part, LineAt}
use Rattle.frames.proofs.LineEnds.{end_digit}
use Rattle.frames.proofs.LinePlaces.{part_length, line_here, lines_here, ends_here, SameLine, same_start, same_next, same_over}

-- DIGITS of a line, one after the other
pub record DigitsUpTo (f : List ℕ) (at i : ℕ) : Type 0 where
  pub line : SameLine f at i
  pub digits : all is_digit (part at i f) ≡ true

pub digits_start : (f : List ℕ) (at : ℕ) → at < length f → DigitsUpTo f at at
unfolding all
digits_start f at h = let z : at - at ≡ 0 = omega arith in record { line = same_start f at h; digits = rw z }

pub digits_next : {f : List ℕ} {at i : ℕ} → DigitsUpTo f at i → i < length f → is_digit (get_or f i 0) ≡ true → DigitsUpTo f at (i + 1)
unfolding all
digits_next {f} {at} {i} s h d =
    let e : line_end (drop i f) ≡ 0 = rw (drop-cons f i 0 h) (end_digit (get_or f i 0) _ d) in
    let n : i + 1 - at ≡ suc (i - at) = omega (arith, s.line.low) in
    let m : at + (i - at) ≡ i = omega (arith, s.line.low) in
    record {
      line = same_next s.line h e;
      digits =
          rw (n, take-suc (drop at f) (i - at) 0 (simp length-drop (omega (arith, s.line.low))), get_or-drop, m)
          (all_append is_digit (part at i f) (get_or f i 0 ∷ []) s.digits (and_both (is_digit (get_or f i 0)) true d refl));
    }

-- A LINE and what is left
regroup : (a b c d e g : Bool) → (a && b && (c && d && e && g)) ≡ (a && (c && (d && (e && (b && g)))))
regroup true true true true true g = refl
regroup true true true true false g = refl
regroup true true true false e g = refl
regroup true true false d e g = refl
regroup true false true true true g = refl
regroup true false true true false g = refl
regroup true false true false e g = refl
regroup true false false d e g = refl
regroup false b c d e g = refl

module _ {f : List ℕ} {at end next : ℕ} (h : LineAt f at end next) where
  whole_line :
      is_whole_file (drop at f) ≡
      (ltb 0 (next - end) && (ltb 0 (end - at) && (eqb ((end - at) % 2) 0 && (all is_digit (part at end f) && is_whole_file (drop next f)))))
  unfolding all
  whole_line =
      let n = part_length at end f (omega arith) in
      rw (lines_here h, ends_here h, n)
      (regroup (ltb 0 (next - end)) (ends_whole (drop next f)) (ltb 0 (end - at)) (eqb ((end - at) % 2) 0) (all is_digit (part at end f))
      (all is_frame (lines_of (drop next f))))

  pub whole_next : end < next → end ≢ at → (end - at) % 2 ≡ 0 → all is_digit (part at end f) ≡ true →
      is_whole_file (drop at f) ≡ is_whole_file (drop next f)
  whole_next a b c d = whole_line ∙ rw (lt-ltb 0 (next - end) (omega arith), lt-ltb 0 (end - at) (omega arith), eq-eqb _ _ c, d)

  fails_unended : next ≡ end → is_whole_file (drop at f) ≡ false
  fails_unended a = whole_line ∙ rw (le-ltb 0 (next - end) (omega arith))

  pub fails_empty : end ≡ at → is_whole_file (drop at f) ≡ false
  fails_empty a = whole_line ∙ rw (le-ltb 0 (end - at) (omega arith)) (and-false (ltb 0 (next - end)))

  pub fails_odd : (end - at) % 2 ≢ 0 → is_whole_file (drop at f) ≡ false
  fails_odd a = whole_line ∙ rw (ne_eqb _ _ a) (simp and-false)

  fails_digit : (i : ℕ) → at ≤ i → i < end → is_digit (get_or f i 0) ≡ false → is_whole_file (drop at f) ≡ false
  fails_digit i a b d =
      by_test (all is_digit (part at end f))
      (λ e.
      let l = part_length at end f (omega arith) in
      let m : at + (i - at) ≡ i = omega arith in
      let t = all_get_d is_digit (part at end f) 0 (i - at) e (omega arith) in
      let g : get_or (part at end f) (i - at) 0 ≡ get_or f i 0 = get_or-take (end - at) (drop at f) (i - at) 0 (omega arith) ∙ get_or-drop at f (i - at) 0 ∙ rw m in
      true_false (rw g at t) d) (λ e. whole_line ∙ rw e (simp and-false))

pub fails_other : {f : List ℕ} {at i : ℕ} → at < length f → SameLine f at i → (i < length f → is_digit (get_or f i 0) ≡ false) →
    line_end (drop i f) ≡ 0 → is_whole_file (drop at f) ≡ false
fails_other {f} {at} {i} h s d e =
    by_test (ltb i (length f))
    (λ t. fails_digit (line_here f at _ _ h refl refl) i s.low (inside (ltb-true _ _ t)) (d (ltb-true _ _ t)))
    (λ t. fails_unended (same_over s h (ltb-false _ _ t)) refl)
  where
    inside : i < length f → i < at + line_length (drop at f)
    inside b = let r = same_next s b e in omega (arith, s.same)

-- THE ANSWERS
pub whole_end : (f : List ℕ) (at : ℕ) → at ≡ length f → is_whole_file f ≡ is_whole_file (drop at f) → eqb at (length f) ≡ is_whole_file f
unfolding ends_whole all lines_of
whole_end f at e h = eq-eqb _ _ e ∙ sym (h ∙ rw (e, drop-length f))

pub whole_fails : (f : List ℕ) (at : ℕ) → at < length f → is_whole_file f ≡ is_whole_file (drop at f) → is_whole_file (drop at f) ≡ false →
    eqb at (length f) ≡ is_whole_file f
whole_fails f at l h g = ne_eqb at (length f) (omega arith) ∙ sym (h ∙ g)
