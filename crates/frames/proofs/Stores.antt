-- Runs of body frames, stored line by line.
--   Passing kind g at i n            of the run that begins at `at`, n lines are passed, and i is the place reached
--   Filling gives kind g at v i w    so many of the run's frames are stored in w, which was empty as v, each as the conversion makes it of its two numbers
--   Stopped kind g i                 no line of the kind stands at i
--   LineNumbers g i end              the line at i is long enough for a body frame and stands within the file, and how large its numbers are
--   line_numbers                     a line that is passed is
--   passing_room                     an element is left for a line of the run
--   passing_next, filling_next       past a line of the kind
--   stopped_other, stopped_over      a line of another kind, or no line, stops the run
--   numbers_length                   as many numbers as lines
--   numbers_pairs                    the numbers of lines of a kind are the two of each as one
--   stored                           what is stored then
--   stored_as, stored_pairs          by the list that the run says; by the pairs, where they are stored as they are
--   storable_next                    the lines past a run can be stored too
use mathlib.Core.Path.{◌≡◌, refl, ap, subst, sym, ◌∙◌}
use mathlib.Core.Logic.{◌≢◌}
use mathlib.Core.Bool.{true, false}
use mathlib.Core.List.{List, [], ◌∷◌, map}
use Prim.Native.Nat.{ℕ, suc, ◌+◌, ◌≤◌, ◌<◌}
use native.Mathlib.Nat.{add-zero}
use native.Mathlib.Omega.{arith}
use lib.ListN.{length, drop, length-map, drop_of_length-le}
use lib.Dec.{leb}
use Rattle.std.proofs.lemmas.List.{map-id}
use Rattle.std.proofs.lemmas.List.Edits.{sets}
use borrow.Author.Tests.{eq-eqb, ne_eqb, leb-true}
use Rattle.std.specs.Borrow.{MutBor}
use Rattle.counting.specs.Tests.{all}
use Rattle.counting.specs.SliceVecs.{Begun, Extended}
use Rattle.counting.specs.declared.slice_vec.SliceVec.{SliceVec}
use Rattle.counting.proofs.Stores.{sets_append}
use Rattle.counting.proofs.SliceVecs.{extended_long}
use Rattle.counting.specs.Pairs.{pair, number_of}
use Rattle.counting.specs.declared.Pair.{Pair}
use Rattle.counting.proofs.Booleans.{and_left, and_two}
use Rattle.frames.specs.Frames.{lines_of, is_digit, hex_at, kind_of, pairs_in, numbers_in}
use Rattle.frames.specs.Lines.{part, line_after, past_lines, LineAt}
use Rattle.frames.specs.Stores.{has_kind, run_of, past_run, run_at, is_long, Storable, RunPassed, StoredFirst, Gives, Stored}
use Rattle.frames.proofs.LinePlaces.{lines_here, line_after_lem, part_length}
use Rattle.frames.proofs.HexNumbers.{hex_four, hex_part, hex_small_part}
use Rattle.frames.proofs.Runs.{run_kept, past_kept, run_none, past_none, run_nil, past_nil, past_each, run_pairs}

pub record Passing (kind : ℕ) (g : List ℕ) (at i n : ℕ) : Type 0 where
  pub left : Storable g i
  pub counts : n + length (run_at kind g i) ≡ length (run_at kind g at)
  pub place : past_lines (length (run_at kind g i)) g i ≡ past_lines (length (run_at kind g at)) g at
  pub rest : past_run kind (lines_of (drop i g)) ≡ past_run kind (lines_of (drop at g))
  pub low : at ≤ i

pub record Filling {T : Type 0} (gives : Pair → T → Type 0) (kind : ℕ) (g : List ℕ) (at : ℕ) (v : SliceVec T) (i : ℕ) (w : SliceVec T) : Type 0 where
  pub rest : (of : Pair → T) → Gives gives of →
      sets w.slice.now w.len (map of (pairs_in kind (run_at kind g i))) ≡ sets v.slice.now v.len (map of (pairs_in kind (run_at kind g at)))
  pub long : length w.slice.now ≡ length v.slice.now
  pub same : w.slice.ghost_name ≡ v.slice.ghost_name

abbrev pub Stopped : (kind : ℕ) → (g : List ℕ) → (i : ℕ) → Type 0
Stopped kind g i = (run_at kind g i ≡ []) × (past_run kind (lines_of (drop i g)) ≡ lines_of (drop i g))

pub record LineNumbers (g : List ℕ) (i end : ℕ) : Type 0 where
  pub long : i + 6 ≤ end
  pub inside : end ≤ length g
  pub first : hex_at (i + 2) 2 g < 256
  pub second : hex_at (i + 4) 2 g < 256

-- A LINE of the run, or one that stops it
module _ {kind : ℕ} {g : List ℕ} {at i end next n : ℕ} (h : LineAt g i end next) (p : Passing kind g at i n) where
  both_long : (is_long 6 (part i end g) ≡ true) × (all (is_long 6) (lines_of (drop next g)) ≡ true)
  unfolding all
  both_long = and_two _ _ (rw (lines_here h) at p.left.long)

  long_digits : (6 ≤ length (part i end g)) × (all is_digit (part i end g) ≡ true)
  long_digits = let r = and_two _ _ both_long.0 in (leb-true _ _ r.0, r.1)

  line_long : i + 6 ≤ end
  line_long = omega (arith, part_length i end g (omega arith), long_digits.0)

  pub line_numbers : LineNumbers g i end
  line_numbers =
      let l = line_long in
      let d = long_digits.1 in
      record {
        long = l;
        inside = omega (arith, h);
        first = hex_small_part 2 2 i end g (omega arith) d;
        second = hex_small_part 4 2 i end g (omega arith) d;
      }

  line_kind : kind_of (part i end g) ≡ hex_at i 2 g
  line_kind = let l = line_long in hex_part 0 2 i end g (omega arith) ∙ ap (λ (j : ℕ). hex_at j 2 g) (add-zero i)

  pub stopped_other : hex_at i 2 g ≢ kind → Stopped kind g i
  stopped_other d =
      let z : has_kind kind (part i end g) ≡ false = rw line_kind (ne_eqb _ _ d) in
      rw (lines_here h) (run_none kind (part i end g) (lines_of (drop next g)) z, past_none kind (part i end g) (lines_of (drop next g)) z)

  module _ (e : hex_at i 2 g ≡ kind) where
    of_kind : has_kind kind (part i end g) ≡ true
    of_kind = rw line_kind (eq-eqb _ _ e)

    run_here : run_at kind g i ≡ part i end g ∷ run_at kind g next
    run_here = ap (run_of kind) (lines_here h) ∙ run_kept kind (part i end g) (lines_of (drop next g)) of_kind

    pub passing_room : n < length (run_at kind g at)
    passing_room = omega (arith, p.counts, ap length run_here)

    place_next : past_lines (length (run_at kind g next)) g (line_after g i) ≡ past_lines (length (run_at kind g i)) g i
    unfolding past_lines
    place_next = sym (ap (λ (ls : List (List ℕ)). past_lines (length ls) g i) run_here)

    pub passing_next : Passing kind g at next (n + 1)
    passing_next =
        record {
          left = record { inside = h.high; long = both_long.1 };
          counts = omega (arith, p.counts, ap length run_here);
          place = ap (past_lines (length (run_at kind g next)) g) (line_after_lem h) ∙ place_next ∙ p.place;
          rest =
              sym (past_kept kind (part i end g) (lines_of (drop next g)) of_kind) ∙ ap (past_run kind) (sym (lines_here h)) ∙
              p.rest;
          low = omega (arith, h, p);
        }

    pairs_here : pairs_in kind (run_at kind g i) ≡ pair (hex_at (i + 2) 2 g) (hex_at (i + 4) 2 g) ∷ pairs_in kind (run_at kind g next)
    unfolding pairs_in
    pairs_here =
        let l = line_long in
        ap (pairs_in kind) run_here ∙ rw (of_kind, hex_part 2 2 i end g (omega arith), hex_part 4 2 i end g (omega arith))

    pub filling_next : {T : Type 0} {gives : Pair → T → Type 0} {v w w' : SliceVec T} {y : T} → Filling gives kind g at v i w → n ≡ w.len →
        gives (pair (hex_at (i + 2) 2 g) (hex_at (i + 4) 2 g)) y → Extended w (y ∷ []) w' → Filling gives kind g at v next w'
    filling_next {w = w} {y = y} s m q x =
        record {
          rest =
              λ of h.
              let x' = of (pair (hex_at (i + 2) 2 g) (hex_at (i + 4) 2 g)) in
              let left = map of (pairs_in kind (run_at kind g next)) in
              rw (x.slice_is, x.len_is, h _ _ q)
              (sets_append w.slice.now w.len (x' ∷ []) left ∙ sym (ap (λ (xs : List Pair). sets w.slice.now w.len (map of xs)) pairs_here) ∙ s.rest of h);
          long = extended_long x ∙ s.long;
          same = x.same ∙ s.same;
        }

pub stopped_over : (kind : ℕ) (g : List ℕ) (i : ℕ) → length g ≤ i → Stopped kind g i
unfolding lines_of
stopped_over kind g i o = rw (drop_of_length-le g o) (run_nil kind, past_nil kind)

-- NUMBERS of four digits
pub numbers_length : (ls : List (List ℕ)) → length (numbers_in ls) ≡ length ls
unfolding numbers_in
numbers_length [] = refl
numbers_length (l ∷ ls) = ap suc (numbers_length ls)

pub numbers_pairs : (k : ℕ) (ls : List (List ℕ)) → all (has_kind k) ls ≡ true → all (is_long 6) ls ≡ true → map number_of (pairs_in k ls) ≡ numbers_in ls
unfolding numbers_in pairs_in all
numbers_pairs k [] h g = refl
numbers_pairs k (l ∷ ls) h g =
    let d = and_two (is_long 6 l) (all (is_long 6) ls) g in
    let e = and_two (has_kind k l) (all (has_kind k) ls) h in
    let n : 6 ≤ length l = leb-true _ _ (and_left (leb 6 (length l)) (all is_digit l) d.0) in
    rw (e.0, numbers_pairs k ls e.1 d.1, hex_four 2 l (omega arith))

-- WHAT IS STORED
module _ {kind : ℕ} {g : List ℕ} {at i n : ℕ} (p : Passing kind g at i n) (stop : Stopped kind g i) where
  all_counted : n ≡ length (run_at kind g at)
  all_counted = omega (arith, p.counts, ap length stop.0)

  all_passed : RunPassed kind g at n i
  unfolding past_lines
  all_passed =
      record {
        counts = all_counted;
        place = rw all_counted (rw stop.0 at p.place);
        rest = sym stop.1 ∙ p.rest;
        low = p.low;
        high = p.left.inside;
      }

  pub stored : {T : Type 0} {gives : Pair → T → Type 0} {slice : MutBor (List T)} {v w : SliceVec T} {after : List T} → Begun slice v →
      Filling gives kind g at v i w → n ≡ w.len → length (run_at kind g at) ≤ length slice.now → after ≡ w.slice.now → (of : Pair → T) →
      Gives gives of → Stored of kind g at slice.now after w.len i
  unfolding pairs_in
  stored {slice = slice} {w = w} b s m u e of h =
      let l = run_pairs kind (lines_of (drop at g)) in
      let x = ap (λ (ls : List (List ℕ)). sets w.slice.now w.len (map of (pairs_in kind ls))) stop.0 in
      record {
        passed = rw (← m) all_passed;
        entries = record { room = simp length-map (omega arith); entries_are = e ∙ sym x ∙ s.rest of h ∙ rw (b.slice_is, b.empty) };
      }

module _ {T : Type 0} {of : Pair → T} {kind : ℕ} {g : List ℕ} {at : ℕ} {before after : List T} {n turn : ℕ} (s : Stored of kind g at before after n turn) where
  pub stored_as : (xs : List T) → map of (pairs_in kind (run_at kind g at)) ≡ xs → (n ≡ length xs) × StoredFirst xs before after
  stored_as xs e = (
    s.passed.counts ∙ sym (run_pairs kind (lines_of (drop at g))) ∙ sym (length-map (pairs_in kind (run_at kind g at)) of) ∙
        ap (λ (ys : List T). length ys) e,
    subst (λ (ys : List T). StoredFirst ys before after) e s.entries,
  )

pub stored_pairs : {kind : ℕ} {g : List ℕ} {at : ℕ} {before after : List Pair} {n turn : ℕ} → Stored (λ (x : Pair). x) kind g at before after n turn →
    (xs : List Pair) → pairs_in kind (run_at kind g at) ≡ xs → (n ≡ length xs) × StoredFirst xs before after
stored_pairs {kind} {g} {at} s xs e = stored_as s xs (map-id (pairs_in kind (run_at kind g at)) ∙ e)

pub storable_next : {kind : ℕ} {g : List ℕ} {at count next : ℕ} → Storable g at → RunPassed kind g at count next → Storable g next
storable_next {kind} {g} {at} s p =
    record { inside = p.high; long = rw p.rest (past_each (is_long 6) kind (lines_of (drop at g)) s.long) }
