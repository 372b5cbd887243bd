-- The flags of cameras that have a fit, set fit by fit, and the marks read off them and the reached nodes, camera by camera.
--   flags_start, _next, _end          no flag is set; those of one fit more are; those of the cameras that have a fit are
--   marks_size, _next, _none          how many marks there are; the next camera's and those behind it; of no camera
--   marks_fill                        all marks are written, and fill the table
use Rattle.std.proofs.Common.{◌≡◌, refl, sym, ap, ◌∙◌, Bool, false, List, [], ◌∷◌, ◌++◌, ℕ, suc, ◌+◌, ◌*◌, ◌≤◌, ◌<◌, length, get_or, take, drop, replicate, arith, length-set}
use Rattle.std.proofs.Math.ListN.{drop_of_length-le}
use Rattle.std.proofs.Math.Seq.{take-length}
use Rattle.std.proofs.lemmas.List.{take-replicate, length-replicate}
use Rattle.std.specs.Borrow.{MutBor}
use mathlib.Core.Path.{fun_ext}
use mathlib.Core.Logic.{◌⊎◌, ⊎_elim}
use mathlib.Core.Bool.{or_assoc, or-false}
use Rattle.formats.specs.Limits.{cameras_most}
use Rattle.counting.specs.Tests.{any, pick, up_from, below}
use Rattle.counting.specs.Pairs.{no_pair}
use Rattle.counting.specs.SliceVecs.{Begun, Extended}
use Rattle.counting.specs.declared.slice_vec.SliceVec.{SliceVec}
use Rattle.counting.proofs.Range.{length_up}
use Rattle.counting.proofs.Loops.{next_in}
use Rattle.counting.proofs.SliceVecs.{extended_long, extended_taken}
use Rattle.matching.specs.Stock.{Stock, touches, is_included}
use Rattle.matching.specs.Flags.{is_flagged, flag_pair}
use Rattle.matching.specs.DoubledTable.{marks_by}
use Rattle.matching.proofs.Flags.{no_flag_new, flag_pair_lem}
use Rattle.matching.proofs.Largest.{marks_length}
use Rattle.pairing.specs.Table.{StockTable, FlagsSet, marks_read}
use Rattle.pairing.proofs.DoubledTables.{fit_named}

-- FLAGS
module _ {s : Stock} (T : StockTable s) where
  pub flags_start : FlagsSet s (take s.cameras (replicate cameras_most false)) 0
  flags_start =
      let e : take s.cameras (replicate cameras_most false) ≡ replicate s.cameras false = take-replicate s.cameras cameras_most false T.cameras_few in
      rw e (record { long = length-replicate {A = Bool} s.cameras false; tells = λ u. rw (no_flag_new s.cameras u) })

  pub flags_next : {flags : List Bool} {i : ℕ} → FlagsSet s flags i → i < length s.fits → FlagsSet s (flag_pair flags (get_or s.fits i no_pair)) (i + 1)
  unfolding any
  flags_next {flags} {i} S h =
      let x = get_or s.fits i no_pair in
      let rest = drop (i + 1) s.fits in
      let first : x.first < length flags = omega (arith, S.long, fit_named T i h) in
      let second : x.second < length flags = omega (arith, S.long, fit_named T i h) in
      let long = S.long in
      record {
        long = simp length-set long;
        tells = λ u. S.tells u ∙ rw ((next_in s.fits no_pair i h).is, flag_pair_lem flags x u first second) (sym (or_assoc (is_flagged flags u) (touches x u) (is_included rest u)));
      }

pub flags_end : {s : Stock} {flags : List Bool} {i : ℕ} → FlagsSet s flags i → length s.fits ≤ i → is_flagged flags ≡ is_included s.fits
unfolding any
flags_end {s} {flags} {i} S h =
    let none = drop_of_length-le s.fits {i = i} h in fun_ext (λ u. sym (S.tells u ∙ rw none (or-false (is_flagged flags u))))

-- MARKS
-- read off the flags of cameras a and on, and of their nodes
marks_from : (h f : ℕ → Bool) (a : ℕ) (flags nodes : List Bool) → 2 * length flags ≤ length nodes → ((k : ℕ) → h (a + k) ≡ get_or flags k false) →
    ((k : ℕ) → f (2 * a + k) ≡ get_or nodes k false) → marks_read flags nodes ≡ marks_by h f (up_from a (length flags))
unfolding marks_read marks_by up_from
marks_from h f a [] ns l p q = refl
marks_from h f a (b ∷ bs) [] l p q = absurd (omega arith)
marks_from h f a (b ∷ bs) (o ∷ []) l p q = absurd (omega arith)
marks_from h f a (b ∷ bs) (o ∷ i ∷ ns) l p q =
    let one : a + 0 ≡ a = omega arith in
    let two : 2 * a + 0 ≡ 2 * a = omega arith in
    let flag : h a ≡ b = rw one at (p 0) in
    let outer : f (2 * a) ≡ o = rw two at (q 0) in
    let rest = marks_from h f (suc a) bs ns (omega arith) (λ k. ap h (omega arith) ∙ p (suc k)) (λ k. ap f (omega arith) ∙ q (suc (suc k))) in
    rw (rest, flag, outer, q 1)

module _ (flags nodes : List Bool) (h : 2 * length flags ≤ length nodes) where
  marks_are : marks_read flags nodes ≡ marks_by (is_flagged flags) (is_flagged nodes) (below (length flags))
  marks_are =
      marks_from (is_flagged flags) (is_flagged nodes) 0 flags nodes h (λ k. ap (is_flagged flags) (omega arith)) (λ k. ap (is_flagged nodes) (omega arith))

  pub marks_size : length (marks_read flags nodes) ≡ length flags
  marks_size = ap length marks_are ∙ marks_length (is_flagged flags) (is_flagged nodes) (below (length flags)) ∙ length_up 0 (length flags)

pub marks_next : {flags nodes later : List Bool} {b : Bool} (two others : List Bool) {m : ℕ} → flags ≡ b ∷ later → nodes ≡ two ++ others → length two ≡ 2 →
    m ≡ pick b (pick (get_or two 0 false) 0 (pick (get_or two 1 false) 1 2)) 3 → marks_read flags nodes ≡ m ∷ marks_read later others
unfolding marks_read
marks_next [] others e f l q = absurd (omega arith)
marks_next (o ∷ []) others e f l q = absurd (omega arith)
marks_next (o ∷ i ∷ []) others e f l q = rw (e, f, q)
marks_next (o ∷ i ∷ x ∷ xs) others e f l q = absurd (omega arith)

pub marks_none : (flags nodes : List Bool) → (length flags ≡ 0) ⊎ (length nodes < 2) → marks_read flags nodes ≡ []
unfolding marks_read
marks_none [] ns h = refl
marks_none (b ∷ bs) [] h = refl
marks_none (b ∷ bs) (o ∷ []) h = refl
marks_none (b ∷ bs) (o ∷ i ∷ ns) h = ⊎_elim (λ z. absurd (omega arith)) (λ z. absurd (omega arith)) h

-- written one by one, they fill the table
pub marks_fill : {s : Stock} {flags : List Bool} (nodes : List Bool) {i : ℕ} {slice : MutBor (List ℕ)} {v w : SliceVec ℕ} {after : List ℕ} → FlagsSet s flags i → length s.fits ≤ i →
    length slice.now ≡ s.cameras → 2 * length slice.now ≤ length nodes → Begun slice v → Extended v (marks_read flags nodes) w → (slice.ghost_name ≡ w.slice.ghost_name → after ≡ w.slice.now) →
    after ≡ marks_by (is_included s.fits) (is_flagged nodes) (below (length slice.now))
marks_fill {flags = flags} nodes {slice = slice} {w = w} S h l r B X same =
    let long : length flags ≡ length slice.now = omega (arith, S.long) in
    let size = marks_size flags nodes (omega arith) in
    let n : w.len ≡ length w.slice.now = omega (arith, X.len_is, B.empty, extended_long X, ap length B.slice_is) in
    same (sym (X.same ∙ B.same)) ∙ sym (take-length w.slice.now) ∙ ap (λ (k : ℕ). take k w.slice.now) (sym n) ∙
    extended_taken B.empty (omega (arith, ap length B.slice_is)) X ∙
    rw (← long, ← flags_end S h) (marks_are flags nodes (omega arith))
