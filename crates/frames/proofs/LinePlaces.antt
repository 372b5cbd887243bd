-- Lines by their places in a file.
--   line_here                                     what a place, the line's length and its line end make a LineAt
--   SameLine                                      no line end stands from one place up to another
--   same_start, same_next, same_ended, same_over  so at a line's first byte, past a byte, at a line end, at the file's end
--   same_control                                  and up to the next control character
--   control_here, control_next                    where that is: here, past another byte
--   lines_here, lines_some, last_here             the lines from a place on: the line there, and those from the next on
--   line_after_lem                                where the line behind it begins
--   ends_here                                     whether the last line is ended, from a place on
--   line_taken, file_kept                        lines one by one: the line taken, and the file, which stays
--   part_length, part_tail                        how long a part is; a part that goes on to the file's end
use mathlib.Core.Path.{◌≡◌, refl, ap, sym, ◌∙◌}
use mathlib.Core.Bool.{◌&&◌}
use mathlib.Core.List.{List, [], ◌∷◌}
use Prim.Native.Nat.{ℕ, suc, ◌+◌, ◌-◌, ◌≤◌, ◌<◌}
use native.Mathlib.Omega.{arith}
use native.Mathlib.Numerals.{add-one}
use lib.Dec.{ltb}
use lib.ListN.{length, get_or, take, drop, length-drop, drop_of_length-le}
use lib.Seq.{drop-cons, drop-drop, take_all, length-take-le}
use borrow.Author.Tests.{ltb-true, ltb-false, lt-ltb, le-ltb}
use Rattle.std.specs.Prelude.{Some}
use Rattle.std.specs.Borrow.{Bor}
use Rattle.counting.proofs.Booleans.{by_test}
use Rattle.frames.specs.Frames.{with_byte, lines_of, ends_whole}
use Rattle.frames.specs.Lines.{line_end, control_at, line_length, part, line_after, LineAt}
use Rattle.frames.specs.LineRuns.{LineTaken}
use Rattle.frames.specs.declared.lines.Line.{Line}
use Rattle.frames.specs.declared.lines.Lines.{Lines}
use Rattle.frames.proofs.LineEnds.{end_none, end_fits, end_above, lines_end, lines_byte, ends_end, ends_byte}

-- THE FIRST LINE of what stands from a place on, and what stands past it
abbrev first_of : List ℕ → List ℕ
first_of s = take (line_length s) s

abbrev at_end : List ℕ → List ℕ
at_end s = drop (line_length s) s

abbrev past_line : List ℕ → List ℕ
past_line s = drop (line_end (at_end s)) (at_end s)

module _ (c : ℕ) (cs : List ℕ) where
  length_end : 0 < line_end (c ∷ cs) → line_length (c ∷ cs) ≡ 0
  unfolding line_length
  length_end h = rw (lt-ltb _ _ h)

  length_byte : line_end (c ∷ cs) ≡ 0 → line_length (c ∷ cs) ≡ suc (line_length cs)
  unfolding line_length
  length_byte h = rw h

-- by cases: a line end stands at the front, or a byte of the line
by_end : {C : Type 0} (c : ℕ) (cs : List ℕ) → (0 < line_end (c ∷ cs) → C) → (line_end (c ∷ cs) ≡ 0 → C) → C
by_end c cs f g =
    by_test (ltb 0 (line_end (c ∷ cs))) (λ t. f (ltb-true _ _ t)) (λ t. let h : line_end (c ∷ cs) ≤ 0 = ltb-false _ _ t in g (omega arith))

end_nil : line_end [] ≡ 0
unfolding line_end
end_nil = refl

length_nil : line_length [] ≡ 0
unfolding line_length
length_nil = refl

lines_first : (c : ℕ) (cs : List ℕ) → lines_of (c ∷ cs) ≡ first_of (c ∷ cs) ∷ lines_of (past_line (c ∷ cs))
unfolding lines_of
lines_first c [] =
    by_end c [] (λ h. rw (length_end c [] h) (lines_end c [] h)) (λ h. rw (length_byte c [] h, length_nil, end_nil) (lines_byte c [] h))
lines_first c (d ∷ ds) =
    by_end c (d ∷ ds) (λ h. rw (length_end c (d ∷ ds) h) (lines_end c (d ∷ ds) h))
    (λ h. rw (length_byte c (d ∷ ds) h) (lines_byte c (d ∷ ds) h ∙ ap (with_byte c) (lines_first d ds)))

ends_first : (c : ℕ) (cs : List ℕ) → ends_whole (c ∷ cs) ≡ (ltb 0 (line_end (at_end (c ∷ cs))) && ends_whole (past_line (c ∷ cs)))
ends_first c [] =
    by_end c [] (λ h. rw (length_end c [] h, lt-ltb _ _ h) (ends_end c [] h))
    (λ h. rw (length_byte c [] h, length_nil, end_nil) (ends_byte c [] h))
ends_first c (d ∷ ds) =
    by_end c (d ∷ ds) (λ h. rw (length_end c (d ∷ ds) h, lt-ltb _ _ h) (ends_end c (d ∷ ds) h))
    (λ h. rw (length_byte c (d ∷ ds) h) (ends_byte c (d ∷ ds) h ∙ rw (lt-ltb 0 (suc (length ds)) (omega arith)) (ends_first d ds)))

length_fits : (s : List ℕ) → line_length s ≤ length s
length_fits [] = rw length_nil (omega arith)
length_fits (c ∷ cs) =
    by_end c cs (λ h. omega (arith, length_end c cs h)) (λ h. omega (arith, length_byte c cs h, length_fits cs))

control_fits : (s : List ℕ) → control_at s ≤ length s
unfolding control_at
control_fits [] = omega arith
control_fits (c ∷ cs) = let h = control_fits cs in by_test (ltb c 32) (λ t. rw t (omega arith)) (λ t. rw t (omega arith))

control_line : (s : List ℕ) → line_length s ≡ control_at s + line_length (drop (control_at s) s)
unfolding control_at
control_line [] = omega arith
control_line (c ∷ cs) =
    by_test (ltb c 32) (λ t. rw t (omega arith))
    (λ t. let h = control_line cs in rw (t, length_byte c cs (end_above c cs (ltb-false _ _ t))) (omega arith))

-- one byte of a line, by its place
module _ (f : List ℕ) (i : ℕ) where
  length_none : length f ≤ i → line_length (drop i f) ≡ 0
  length_none h = rw (drop_of_length-le f h) length_nil

  length_end_at : 0 < line_end (drop i f) → line_length (drop i f) ≡ 0
  length_end_at h =
      let b = end_fits (drop i f) in
      let l = length-drop i f in
      let d = drop-cons f i 0 (omega arith) in
      rw d (length_end (get_or f i 0) (drop (suc i) f) (rw d at h))

  length_byte_at : i < length f → line_end (drop i f) ≡ 0 → line_length (drop i f) ≡ line_length (drop (i + 1) f) + 1
  length_byte_at h e =
      let d = drop-cons f i 0 h in
      rw (d, add-one, add-one) (length_byte (get_or f i 0) (drop (suc i) f) (rw d at e))

-- PARTS
pub part_length : (at end : ℕ) (f : List ℕ) → end ≤ length f → length (part at end f) ≡ end - at
part_length at end f h = length-take-le (end - at) (drop at f) (simp length-drop (omega arith))

-- as `&f[n..]` leaves it
pub part_tail : (n : ℕ) (f : List ℕ) → part n (length f) f ≡ drop n f
part_tail n f = take_all (length f - n) (drop n f) (simp length-drop (omega arith))

-- A LINE at a place
pub line_here : (f : List ℕ) (at end next : ℕ) → at < length f → end ≡ at + line_length (drop at f) → next ≡ end + line_end (drop end f) →
    LineAt f at end next
line_here f at end next h e g =
    let b = length_fits (drop at f) in
    let d = length-drop at f in
    let p = end_fits (drop end f) in
    let q = length-drop end f in
    let m : at < next = on h e g in
    record { inside = h; ends = e; goes = g; low = omega arith; past = omega arith; on = m; high = omega arith }
  where
    on : at < length f → end ≡ at + line_length (drop at f) → next ≡ end + line_end (drop end f) → at < next
    on h e g =
        by_test (ltb 0 (line_end (drop at f)))
        (λ t.
        let z : 0 < line_end (drop at f) = ltb-true _ _ t in
        let n : line_length (drop at f) ≡ 0 = length_end_at f at z in
        let a : end ≡ at = omega arith in
        omega (arith, rw a at g))
        (λ t.
        let z : line_end (drop at f) ≤ 0 = ltb-false _ _ t in
        let n = length_byte_at f at h (omega arith) in
        omega arith)

-- THE LINE SO FAR: no line end stands from `at` up to i
pub record SameLine (f : List ℕ) (at i : ℕ) : Type 0 where
  pub low : at ≤ i
  pub high : i ≤ length f
  pub same : at + line_length (drop at f) ≡ i + line_length (drop i f)

pub same_start : (f : List ℕ) (at : ℕ) → at < length f → SameLine f at at
same_start f at h = record { low = omega arith; high = omega arith; same = refl }

-- THE NEXT CONTROL CHARACTER, byte by byte
pub control_here : (c : ℕ) (cs : List ℕ) → c < 32 → control_at (c ∷ cs) ≡ 0
unfolding control_at
control_here c cs h = rw (lt-ltb _ _ h)

pub control_next : (c : ℕ) (cs : List ℕ) → 32 ≤ c → control_at (c ∷ cs) ≡ control_at cs + 1
unfolding control_at
control_next c cs h = rw (le-ltb _ _ h) (sym (add-one (control_at cs)))

module _ {f : List ℕ} {at i : ℕ} (s : SameLine f at i) where
  pub same_control : SameLine f at (i + control_at (drop i f))
  same_control =
      let a = control_fits (drop i f) in
      let b = length-drop i f in
      let c = control_line (drop i f) in
      let d = drop-drop (control_at (drop i f)) i f in
      let e = s.high in
      record { low = omega (arith, s.low); high = omega arith; same = s.same ∙ rw c (rw d (omega arith)) }

  pub same_next : i < length f → line_end (drop i f) ≡ 0 → SameLine f at (i + 1)
  same_next h e =
      let b = length_byte_at f i h e in
      record { low = omega arith; high = omega arith; same = omega arith }

  pub same_ended : {n : ℕ} → at < length f → n ≡ line_end (drop i f) → 0 < n → LineAt f at i (i + n)
  same_ended {n} h e g = let z = length_end_at f i (omega arith) in line_here f at i (i + n) h (omega arith) (omega arith)

  pub same_over : at < length f → length f ≤ i → LineAt f at i i
  same_over h g =
      let z = length_none f i g in
      let y = end_none f i g in
      line_here f at i i h (omega arith) (omega arith)

module _ {f : List ℕ} {at end next : ℕ} (h : LineAt f at end next) where
  at_end_lem : at_end (drop at f) ≡ drop end f
  at_end_lem = drop-drop (line_length (drop at f)) at f ∙ ap (λ (i : ℕ). drop i f) (sym h.ends)

  past_line_lem : past_line (drop at f) ≡ drop next f
  past_line_lem = rw at_end_lem (drop-drop (line_end (drop end f)) end f ∙ ap (λ (i : ℕ). drop i f) (sym h.goes))

  first_part : first_of (drop at f) ≡ part at end f
  first_part = let n : line_length (drop at f) ≡ end - at = omega arith in rw n

  pub lines_here : lines_of (drop at f) ≡ part at end f ∷ lines_of (drop next f)
  lines_here =
      let d = drop-cons f at 0 h.inside in
      let e = lines_first (get_or f at 0) (drop (suc at) f) in
      (rw (← d) at e) ∙ rw (past_line_lem, first_part)

  pub ends_here : ends_whole (drop at f) ≡ (ltb 0 (next - end) && ends_whole (drop next f))
  ends_here =
      let d = drop-cons f at 0 h.inside in
      let e = ends_first (get_or f at 0) (drop (suc at) f) in
      let n : line_end (drop end f) ≡ next - end = omega arith in
      (rw (← d) at e) ∙ rw (past_line_lem, at_end_lem, n)

  pub last_here : next ≡ length f → lines_of (drop at f) ≡ part at end f ∷ []
  unfolding lines_of
  last_here e = lines_here ∙ rw (drop_of_length-le f {i = next} (omega arith))

pub line_after_lem : {f : List ℕ} {at end next : ℕ} → LineAt f at end next → next ≡ line_after f at
line_after_lem {f} l = l.goes ∙ ap (λ (e : ℕ). e + line_end (drop e f)) l.ends

pub lines_some : (s : List ℕ) → 0 < length s → 0 < length (lines_of s)
lines_some [] h = absurd (omega arith)
lines_some (c ∷ cs) h = rw (lines_first c cs) (omega arith)

-- ONE BY ONE
module _ {s s' : Lines} {l : Line} {f : List ℕ} (same : s.file.now ≡ f) (t : LineTaken s (Some l) s') where
  pub line_taken : LineAt f l.at l.end l.next
  line_taken = rw (t.0, ← same) t.1

  pub file_kept : s'.file.now ≡ f
  file_kept = ap (λ (b : Bor (List ℕ)). b.now) t.3 ∙ same
