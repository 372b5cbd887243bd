-- An answer is whole lines of digits, each ended by a line feed alone (document 02, L1).
--   path_plain, barrier_plain     of a path and of a barrier
--   plan_plain, sheet_plain       of a plan and of a standing sheet
--   plan_sheet_plain              of a plan and the standing sheet behind it
--   budget_plain                  of what a budget of searches comes to
use mathlib.Core.Path.{◌≡◌, refl, sym, ap, ◌∙◌}
use mathlib.Core.Bool.{true}
use mathlib.Core.List.{List, [], ◌∷◌, ◌++◌, append_assoc, append-nil}
use Prim.Native.Nat.{ℕ, suc}
use lib.ListN.{length}
use Rattle.formats.specs.Kinds.{barrier_end, barrier_kind, budget_end, budget_kind, class_kind, mark_kind, pair_kind, path_end, path_kind, plan_end, plan_kind, sheet_end, sheet_kind, step_kind}
use Rattle.counting.specs.declared.Pair.{Pair}
use Rattle.counting.specs.Tests.{all, among}
use Rattle.frames.specs.EitherEnd.{is_plain_text}
use Rattle.frames.specs.Frames.{lines_of, ends_whole, hex_bytes, frame_of4}
use Rattle.frames.proofs.EitherEnd.{frame2_plain, frame4_plain, frame6_plain, frame8_plain, frame_of4_plain}
use Rattle.matching.specs.Stock.{Stock, greatest, marks_of}
use Rattle.files.specs.StockFile.{mark_lines, sheet_text, plan_lines, plan_text, plan_and_sheet, budget_text}
use Rattle.files.specs.CertificateFile.{path_lines, path_text, class_lines, barrier_text}

-- the last line
end_plain : (k v : ℕ) → is_plain_text (frame_of4 k v) ≡ true
unfolding hex_bytes ends_whole lines_of all among
end_plain k v = frame_of4_plain k v []

-- lines, whatever stands behind them
module _ (r : List ℕ) where
  steps_plain : (is : List ℕ) → is_plain_text (path_lines is ++ r) ≡ is_plain_text r
  unfolding hex_bytes path_lines
  steps_plain [] = refl
  steps_plain (i ∷ is) = frame_of4_plain step_kind i (path_lines is ++ r) ∙ steps_plain is

  classes_plain : (v : ℕ) (cs : List ℕ) → is_plain_text (class_lines v cs ++ r) ≡ is_plain_text r
  unfolding hex_bytes class_lines
  classes_plain v [] = refl
  classes_plain v (c ∷ cs) = frame6_plain class_kind v c (class_lines (suc v) cs ++ r) ∙ classes_plain (suc v) cs

  pairs_plain : (ps : List Pair) → is_plain_text (plan_lines ps ++ r) ≡ is_plain_text r
  unfolding hex_bytes plan_lines
  pairs_plain [] = refl
  pairs_plain (x ∷ xs) = frame6_plain pair_kind x.first x.second (plan_lines xs ++ r) ∙ pairs_plain xs

  marks_plain : (u : ℕ) (ms : List ℕ) → is_plain_text (mark_lines u ms ++ r) ≡ is_plain_text r
  unfolding hex_bytes mark_lines
  marks_plain u [] = refl
  marks_plain u (m ∷ ms) = frame6_plain mark_kind u m (mark_lines (suc u) ms ++ r) ∙ marks_plain (suc u) ms

-- ANSWERS
pub path_plain : (is : List ℕ) → is_plain_text (path_text is) ≡ true
unfolding hex_bytes
path_plain is =
    let e = frame_of4 path_end (length is) in
    frame2_plain path_kind (path_lines is ++ e) ∙ steps_plain e is ∙ end_plain path_end (length is)

pub barrier_plain : (cs : List ℕ) → is_plain_text (barrier_text cs) ≡ true
unfolding hex_bytes
barrier_plain cs =
    let e = frame_of4 barrier_end (length cs) in
    frame2_plain barrier_kind (class_lines 0 cs ++ e) ∙ classes_plain e 0 cs ∙ end_plain barrier_end (length cs)

pub budget_plain : (k m : ℕ) (ps : List Pair) → is_plain_text (budget_text k m ps) ≡ true
unfolding hex_bytes
budget_plain k m ps =
    let e = frame_of4 budget_end (length ps) in
    frame8_plain budget_kind (length ps) k m (plan_lines ps ++ e) ∙ pairs_plain e ps ∙ end_plain budget_end (length ps)

plan_before : (ps : List Pair) (r : List ℕ) → is_plain_text (plan_text ps ++ r) ≡ is_plain_text r
unfolding hex_bytes
plan_before ps r =
    let e = frame_of4 plan_end (length ps) in
    frame4_plain plan_kind (length ps) (plan_lines ps ++ e ++ r) ∙ ap is_plain_text (append_assoc (plan_lines ps) e r) ∙ pairs_plain (e ++ r) ps ∙
    frame_of4_plain plan_end (length ps) r

pub plan_plain : (ps : List Pair) → is_plain_text (plan_text ps) ≡ true
unfolding ends_whole lines_of all among
plan_plain ps = sym (ap is_plain_text (append-nil (plan_text ps))) ∙ plan_before ps []

pub sheet_plain : (n : ℕ) (fs : List Pair) → is_plain_text (sheet_text n fs) ≡ true
unfolding hex_bytes
sheet_plain n fs =
    let e = frame_of4 sheet_end n in
    frame4_plain sheet_kind (greatest fs) (mark_lines 0 (marks_of n fs) ++ e) ∙ marks_plain e 0 (marks_of n fs) ∙ end_plain sheet_end n

pub plan_sheet_plain : (s : Stock) (ps : List Pair) → is_plain_text (plan_and_sheet s ps) ≡ true
plan_sheet_plain s ps = plan_before ps (sheet_text s.cameras s.fits) ∙ sheet_plain s.cameras s.fits
