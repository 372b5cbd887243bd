-- Lines of an answer, seven bytes for each value, written one behind the other into a lent slice.
--   line_room                                          past a line there is room for those left, and for the end frame
--   lines_next, lines_end                              one more line is written; all are
--   class_lines_lem, mark_lines_lem                    document 03's lines are such lines: a barrier's and a sheet's,
--   path_lines_lem, pair_lines_lem                     a path's, and those of a plan and of a budget's answer
--   column_lines_lem                                   the same of pairs in two columns
--   plan_text_lem, budget_text_lem                     and so a plan's text and a budget's
--   plan_size, budget_size, sheet_size                 how many bytes a plan, a budget's answer and a standing sheet take
--   header_then                                        a header and what stands behind it are a text
--   first_size, first_written                          how long a text at the front of the slice is; and so what stands in it, as document 03 has it
use mathlib.Core.Path.{◌≡◌, refl, ap, ◌∙◌}
use mathlib.Core.List.{List, [], ◌∷◌, ◌++◌, append_assoc}
use Prim.Native.Nat.{ℕ, suc, ◌+◌, ◌*◌, ◌-◌, ◌≤◌, ◌<◌}
use native.Mathlib.Omega.{arith}
use native.Mathlib.Numerals.{add-one}
use lib.ListN.{length, get_or, drop, length-append, drop_of_length-le}
use lib.Seq.{drop-cons}
use Rattle.std.specs.Borrow.{MutBor}
use Rattle.formats.specs.Kinds.{budget_end, budget_kind, class_kind, mark_kind, pair_kind, plan_end, plan_kind, step_kind}
use Rattle.counting.specs.Pairs.{zip_pairs}
use Rattle.counting.specs.SliceVecs.{Begun, Extended, Extending}
use Rattle.counting.specs.declared.Pair.{Pair}
use Rattle.counting.specs.declared.slice_vec.SliceVec.{SliceVec}
use Rattle.counting.proofs.Loops.{next_in}
use Rattle.counting.proofs.Zips.{zip_length}
use Rattle.counting.proofs.SliceVecs.{extended_long, extended_lent, extended_then, extending_next, extending_end}
use Rattle.frames.specs.Frames.{frame4, frame6, frame8, frame_of4}
use Rattle.frames.proofs.Writes.{sets_over, hex_bytes_length}
use Rattle.files.specs.StockFile.{mark_lines, sheet_with, plan_lines, plan_text, budget_text}
use Rattle.files.specs.CertificateFile.{path_lines, class_lines}
use Rattle.files.specs.Answers.{each_line, WrittenFirst}

-- LINE BY LINE
pub line_room : {v w : SliceVec ℕ} {n i : ℕ} (k a b : ℕ) → v.len + (7 * (n - i) + 7) ≤ length v.slice.now → i < n → Extended v (frame6 k a b) w →
    w.len + (7 * (n - (i + 1)) + 7) ≤ length w.slice.now
line_room k a b room h e = omega (arith, extended_long e, simp (length-append, hex_bytes_length) at e.len_is)

module _ {A : Type 0} {v w : SliceVec ℕ} (f : ℕ → A → List ℕ) (xs : List A) {i : ℕ} (E : Extending v (each_line f 0 xs) w (each_line f i (drop i xs))) where
  pub lines_next : {x : A} {w' : SliceVec ℕ} → i < length xs → x ≡ get_or xs i x → Extended w (f i x) w' →
      Extending v (each_line f 0 xs) w' (each_line f (i + 1) (drop (i + 1) xs))
  unfolding each_line
  lines_next {x} h is e = extending_next E (f i x) (rw ((next_in xs x i h).is, add-one, ← is)) e

  pub lines_end : length xs ≤ i → Extended v (each_line f 0 xs) w
  unfolding each_line
  lines_end h = extending_end E (rw (drop_of_length-le xs h))

-- DOCUMENT 03'S LINES
pub class_lines_lem : (v : ℕ) (cs : List ℕ) → each_line (frame6 class_kind) v cs ≡ class_lines v cs
unfolding each_line class_lines
class_lines_lem v [] = refl
class_lines_lem v (c ∷ cs) = ap (λ (t : List ℕ). frame6 class_kind v c ++ t) (class_lines_lem (suc v) cs)

pub mark_lines_lem : (u : ℕ) (ms : List ℕ) → each_line (frame6 mark_kind) u ms ≡ mark_lines u ms
unfolding each_line mark_lines
mark_lines_lem u [] = refl
mark_lines_lem u (m ∷ ms) = ap (λ (t : List ℕ). frame6 mark_kind u m ++ t) (mark_lines_lem (suc u) ms)

pub path_lines_lem : (n : ℕ) (is : List ℕ) → each_line (λ (i : ℕ) (x : ℕ). frame_of4 step_kind x) n is ≡ path_lines is
unfolding each_line path_lines
path_lines_lem n [] = refl
path_lines_lem n (i ∷ is) = ap (λ (t : List ℕ). frame_of4 step_kind i ++ t) (path_lines_lem (suc n) is)

pub pair_lines_lem : (n : ℕ) (ps : List Pair) → each_line (λ (i : ℕ) (x : Pair). frame6 pair_kind x.first x.second) n ps ≡ plan_lines ps
unfolding each_line plan_lines
pair_lines_lem n [] = refl
pair_lines_lem n (x ∷ xs) = ap (λ (t : List ℕ). frame6 pair_kind x.first x.second ++ t) (pair_lines_lem (suc n) xs)

pub column_lines_lem : (n : ℕ) (us vs : List ℕ) → n + length us ≤ length vs →
    each_line (λ (i : ℕ) (x : ℕ). frame6 pair_kind x (get_or vs i 0)) n us ≡ plan_lines (zip_pairs us (drop n vs))
unfolding each_line plan_lines zip_pairs
column_lines_lem n [] vs h = refl
column_lines_lem n (u ∷ us) vs h =
    rw (drop-cons vs n 0 (omega arith)) (ap (λ (t : List ℕ). frame6 pair_kind u (get_or vs n 0) ++ t) (column_lines_lem (suc n) us vs (omega arith)))

pub plan_text_lem : (us vs : List ℕ) → length vs ≡ length us →
    frame4 plan_kind (length us) ++ each_line (λ (i : ℕ) (x : ℕ). frame6 pair_kind x (get_or vs i 0)) 0 us ++ frame_of4 plan_end (length us) ≡
    plan_text (zip_pairs us vs)
plan_text_lem us vs e = rw (column_lines_lem 0 us vs (omega arith), zip_length us vs e)

pub budget_text_lem : (searches missing : ℕ) (us vs : List ℕ) → length vs ≡ length us →
    frame8 budget_kind (length us) searches missing ++ each_line (λ (i : ℕ) (x : ℕ). frame6 pair_kind x (get_or vs i 0)) 0 us ++ frame_of4 budget_end (length us) ≡
    budget_text searches missing (zip_pairs us vs)
budget_text_lem k m us vs e = rw (column_lines_lem 0 us vs (omega arith), zip_length us vs e)

-- SIZES
plan_lines_length : (ps : List Pair) → length (plan_lines ps) ≡ 7 * length ps
unfolding plan_lines
plan_lines_length [] = refl
plan_lines_length (x ∷ xs) = simp (length-append, hex_bytes_length) (omega (arith, plan_lines_length xs))

pub plan_size : (ps : List Pair) → length (plan_text ps) ≡ 12 + 7 * length ps
plan_size ps = simp (length-append, hex_bytes_length) (omega (arith, plan_lines_length ps))

pub budget_size : (searches missing : ℕ) (ps : List Pair) → length (budget_text searches missing ps) ≡ 16 + 7 * length ps
budget_size k m ps = simp (length-append, hex_bytes_length) (omega (arith, plan_lines_length ps))

mark_lines_length : (u : ℕ) (ms : List ℕ) → length (mark_lines u ms) ≡ 7 * length ms
unfolding mark_lines
mark_lines_length u [] = refl
mark_lines_length u (m ∷ ms) = simp (length-append, hex_bytes_length) (omega (arith, mark_lines_length (suc u) ms))

pub sheet_size : (pairs : ℕ) (ms : List ℕ) → length (sheet_with pairs ms) ≡ 12 + 7 * length ms
sheet_size k ms = simp (length-append, hex_bytes_length) (omega (arith, mark_lines_length 0 ms))

-- A TEXT: its header, its lines and its end frame
pub header_then : {u v w : SliceVec ℕ} {head : List ℕ} (lines end : List ℕ) → Extended u head v → Extended v (lines ++ end) w →
    Extended u (head ++ lines ++ end) w
header_then {head = head} lines end x y = rw (append_assoc head lines end) (extended_then x y)

-- AT THE FRONT: who lent the slice finds there what the list holds at the end
pub first_size : {slice : MutBor (List ℕ)} {v w : SliceVec ℕ} {text : List ℕ} → Begun slice v → Extended v text w → w.len ≡ length text
first_size b x = omega (arith, b.empty, x.len_is)

pub first_written : {slice : MutBor (List ℕ)} {v w : SliceVec ℕ} {text after : List ℕ} → Begun slice v → Extended v text w →
    (slice.ghost_name ≡ w.slice.ghost_name → after ≡ w.slice.now) → WrittenFirst text slice.now after w.len
first_written {slice} {v} {w} {text} b x same =
    let long : length text ≤ length slice.now = omega (arith, w.fits, extended_long x, ap length b.slice_is, first_size b x) in
    record { bytes = extended_lent b x same ∙ sets_over text slice.now long; told = first_size b x }
