-- The stock call's promises, kept for every file.
--   sheet_begins, halves_fill, plans_tell, halves_agree     the two halves of its answer
--   some_answer                                    something is owed of everything
--   sheets_tell, sheets_by_fits                    demand 3, of the sheet half; and what it says of lit pairs
--   sheet_number_is, sheet_marks_are               and of the number and the marks in a sheet's bytes
--   same_isolated                                  and of cameras without a fit
use mathlib.Core.Path.{◌≡◌, refl, sym, ap, ◌∙◌}
use mathlib.Core.Bool.{true}
use mathlib.Core.List.{List, [], ◌++◌, append_assoc}
use Prim.Native.Nat.{ℕ, ◌+◌, ◌*◌, ◌≤◌, ◌<◌}
use native.Mathlib.Omega.{arith}
use lib.Dec.{eqb}
use lib.ListN.{length, take, drop, length-append, length-map}
use lib.Seq.{take-append_seam, drop-append_seam}
use borrow.Author.Tests.{eqb-true, eqb-false}
use Rattle.formats.specs.Kinds.{pair_kind}
use Rattle.formats.specs.Limits.{room}
use Rattle.counting.specs.Lists.{In}
use Rattle.counting.specs.declared.Pair.{Pair}
use Rattle.counting.proofs.Booleans.{and_three, by_test, true_false}
use Rattle.frames.specs.Frames.{hex_at, body_lines, pairs_in}
use Rattle.matching.specs.Stock.{Stock, greatest, mark_of, is_plan}
use Rattle.matching.specs.Matching.{FitsBelow}
use Rattle.matching.proofs.Matchings.{list_named, list_count}
use Rattle.matching.proofs.Greatest.{greatest_bound, greatest_pairing}
use Rattle.matching.proofs.Marks.{same_mark_fit}
use Rattle.matching.proofs.Promises.{well_formed_fits}
use Rattle.pairing.proofs.ListedPairs.{plan_pairing, plan_greatest}
use Rattle.files.specs.StockFile.{stock_in, stock_fault, sheet_text, plan_text, plan_and_sheet}
use Rattle.files.specs.Answers.{over}
use Rattle.lanes.specs.Entry.{told, stock_call_fault, sheet_of_file, Told}
use Rattle.lanes.specs.StockPromise.{AnsweredWith, sheet_place, plan_half, sheet_half, SheetBegins, HalvesFill, pairs_read, PlansTell, HalvesAgree, SomeAnswer, SheetsTell, SheetsByFits, SheetNumber, SheetMarks, SameIsolated, camera_line}
use Rattle.files.proofs.AcceptedFiles.{accepted_stock, stock_few}
use Rattle.files.proofs.AnswerLines.{plan_size}
use Rattle.files.proofs.PlanBytes.{plan_header, pair_line, plan_body, pairs_read_lem}
use Rattle.files.proofs.SheetBytes.{sheet_found, sheets_alike, alike_sheets, sheet_number, sheet_line}
use Rattle.lanes.proofs.CallFaults.{call_none}
use Rattle.lanes.proofs.Promises.{greatest_is}

module _ (f : List ℕ) (none : stock_fault f ≡ 0) where
  abbrev s : Stock
  s = stock_in f

  fits : FitsBelow s.cameras s.fits
  fits = well_formed_fits s (accepted_stock f none)

  -- 127 cameras have at most 63 pairs
  greatest_few : greatest s.fits ≤ 63
  greatest_few =
      let r = greatest_pairing s.fits in
      omega (arith, r.1.1, list_count s.cameras s.fits fits r.0 r.1.0, stock_few f none)

  -- a pair of a plan is written in two digits a camera
  pairs_low : (ps : List Pair) → is_plan s ps ≡ true → (x : Pair) → In x ps → (x.first < 256) × (x.second < 256)
  pairs_low ps plan x m =
      let i = list_named s.cameras s.fits fits ps (plan_pairing s ps plan) x m in
      let few = stock_few f none in
      (omega arith, omega arith)

pub sheet_begins : SheetBegins
sheet_begins s ps h = plan_size ps ∙ ap (λ (k : ℕ). 12 + 7 * k) (plan_greatest s ps h)

-- two texts at the front of a buffer, cut off at the first one's end and at their size
two_parts : (a b o v : List ℕ) (k size : ℕ) → v ≡ over (a ++ b) o → k ≡ length a → size ≡ length (a ++ b) → (take k v ≡ a) × (drop k (take size v) ≡ b)
two_parts a b o v k size e place long =
    let rest = drop (length (a ++ b)) o in (
      rw (e, place, append_assoc a b rest) (take-append_seam a (b ++ rest)),
      rw (e, place, long, take-append_seam (a ++ b) rest) (drop-append_seam a b),
    )

-- the two halves are the plan that was written and the sheet
module _ (f o v : List ℕ) (r : Told) (A : AnsweredWith f o r v) where
  none : stock_fault f ≡ 0
  none = call_none A.0 (length o) (stock_fault f) A.1.0

  abbrev sheet : List ℕ
  sheet = sheet_of_file f

  abbrev ps : List Pair
  ps = (A.1.1.1 A.1.0).0

  abbrev plan : is_plan (stock_in f) ps ≡ true
  plan = (A.1.1.1 A.1.0).1.0

  abbrev tells : r ≡ told 0 (length (plan_text ps ++ sheet))
  tells = (A.1.1.1 A.1.0).1.1.0

  abbrev leaves : v ≡ over (plan_text ps ++ sheet) o
  leaves = (A.1.1.1 A.1.0).1.1.1

  begins : sheet_place (stock_in f).fits ≡ length (plan_text ps)
  begins = sym (sheet_begins (stock_in f) ps plan)

  size_is : r.size ≡ length (plan_text ps ++ sheet)
  size_is = ap (λ (x : Told). x.size) tells

  halves : (plan_half f v ≡ plan_text ps) × (sheet_half f r v ≡ sheet)
  halves = two_parts (plan_text ps) sheet o v (sheet_place (stock_in f).fits) r.size leaves begins size_is

  plan_half_lem : plan_half f v ≡ plan_text ps
  plan_half_lem = halves.0

  sheet_half_lem : sheet_half f r v ≡ sheet
  sheet_half_lem = halves.1

  size_fixed : r.size ≡ sheet_place (stock_in f).fits + (12 + 7 * (stock_in f).cameras)
  size_fixed = omega (arith, size_is, begins, length-append (plan_text ps) sheet, (sheet_found (stock_in f).cameras (stock_in f).fits).1)

  number : hex_at 2 2 (sheet_half f r v) ≡ greatest (stock_in f).fits
  number =
      let few = greatest_few f none in
      ap (hex_at 2 2) sheet_half_lem ∙ sheet_number (stock_in f).cameras (stock_in f).fits (omega arith)

  fill : (r.size ≡ sheet_place (stock_in f).fits + (12 + 7 * (stock_in f).cameras)) × (r.size ≤ 1354) × (1354 ≤ room) ×
      (v ≡ over (plan_half f v ++ sheet_half f r v) o)
  fill = (
    size_fixed,
    omega (arith, size_fixed, greatest_few f none, stock_few f none),
    omega arith,
    leaves ∙ ap (λ (t : List ℕ). over (t ++ sheet) o) (sym plan_half_lem) ∙ ap (λ (t : List ℕ). over (plan_half f v ++ t) o) (sym sheet_half_lem),
  )

  said : pairs_read (plan_half f v) ≡ ps
  said = ap pairs_read plan_half_lem ∙ ap (pairs_in pair_kind) (plan_body ps) ∙ pairs_read_lem ps (pairs_low f none ps plan)

  agree : (hex_at 2 2 v ≡ hex_at 2 2 (sheet_half f r v)) × (length (body_lines (plan_half f v)) ≡ hex_at 2 2 (sheet_half f r v)) ×
      (sheet_place (stock_in f).fits ≡ 12 + 7 * hex_at 2 2 v)
  agree =
      let count = plan_greatest (stock_in f) ps plan in
      let few = greatest_few f none in
      let rest = drop (length (plan_text ps ++ sheet)) o in
      let header : hex_at 2 2 v ≡ length ps =
      ap (hex_at 2 2) (leaves ∙ append_assoc (plan_text ps) sheet rest) ∙ plan_header ps (sheet ++ rest) (omega arith) in
      let lines : length (body_lines (plan_half f v)) ≡ length ps =
      ap (λ (t : List ℕ). length (body_lines t)) plan_half_lem ∙ ap (λ (ls : List (List ℕ)). length ls) (plan_body ps) ∙ length-map ps pair_line in
      (header ∙ count ∙ sym number, lines ∙ count ∙ sym number, ap (λ (k : ℕ). 12 + 7 * k) (sym (header ∙ count)))

pub halves_fill : HalvesFill
halves_fill = fill

pub plans_tell : PlansTell
plans_tell f o v r A =
    let e = said f o v r A in (ap (is_plan (stock_in f)) e ∙ plan f o v r A, ap plan_text e ∙ sym (plan_half_lem f o v r A))

pub halves_agree : HalvesAgree
halves_agree = agree

pub some_answer : SomeAnswer
some_answer c f o =
    let n = stock_call_fault c f (length o) in
    by_test (eqb n 0)
    (λ t.
    let q = (greatest_is f [] (call_none c (length o) (stock_fault f) (eqb-true n 0 t))).2 in
    let text = plan_and_sheet (stock_in f) q.0 in
    (told 0 (length text), (over text o, (λ y. true_false t y, λ _. (q.0, (q.1, (refl, refl)))))))
    (λ t. (told n 0, (o, (λ _. (refl, refl), λ y. absurd (eqb-false n 0 t y)))))

-- THE SHEET HALF
pub sheets_tell : SheetsTell
sheets_tell f g o p v w q r d e =
    let x = sheet_half_lem f o v q d in
    let y = sheet_half_lem g p w r e in
    let a = greatest_few f (none f o v q d) in
    let b = greatest_few g (none g p w r e) in (
      (λ h. sheets_alike (stock_in f) (stock_in g) (omega arith) (omega arith) (sym x ∙ h ∙ y), λ h. x ∙ alike_sheets (stock_in f) (stock_in g) h ∙ sym y),
      x,
    )

pub sheets_by_fits : SheetsByFits
sheets_by_fits f g o p v w q r d e n h =
    let place : sheet_place (stock_in f).fits ≡ sheet_place (stock_in g).fits = ap sheet_place h in
    let size : q.size ≡ r.size = omega (arith, size_fixed f o v q d, size_fixed g p w r e) in (
      place,
      tells f o v q d ∙ ap (told 0) (sym (size_is f o v q d) ∙ size ∙ size_is g p w r e) ∙ sym (tells g p w r e),
      sheet_half_lem f o v q d ∙ ap (λ (k : ℕ). sheet_text k (stock_in f).fits) n ∙ ap (sheet_text (stock_in g).cameras) h ∙ sym (sheet_half_lem g p w r e),
    )

pub sheet_number_is : SheetNumber
sheet_number_is f o v r A =
    let h = number f o v r A in
    let g = greatest_pairing (stock_in f).fits in (
      (g.0, (g.1.0, g.1.1 ∙ sym h)),
      λ ps q. let b = greatest_bound (stock_in f).cameras (stock_in f).fits (fits f (none f o v r A)) ps q in omega arith,
    )

pub sheet_marks_are : SheetMarks
sheet_marks_are f o v r u A h =
    let few = stock_few f (none f o v r A) in
    let half = sheet_half_lem f o v r A in
    let l = sheet_line (stock_in f).cameras u (stock_in f).fits h (omega arith) in
    (ap (hex_at (camera_line u + 2) 2) half ∙ l.0, ap (hex_at (camera_line u + 4) 2) half ∙ l.1)

pub same_isolated : SameIsolated
same_isolated f g o p v w q r u d e h l =
    let s = stock_in f in
    let t = stock_in g in
    let n = (and_three (eqb s.cameras t.cameras) (eqb (greatest s.fits) (greatest t.fits)) _ ((sheets_tell f g o p v w q r d e).0.0 h)).0 in
    let k : u < t.cameras = omega (arith, eqb-true s.cameras t.cameras n) in
    let m : mark_of s.fits u ≡ mark_of t.fits u =
    sym (sheet_marks_are f o v q u d l).1 ∙ ap (hex_at (camera_line u + 4) 2) h ∙ (sheet_marks_are g p w r u e k).1 in
    (same_mark_fit s.fits t.fits u m, same_mark_fit t.fits s.fits u (sym m))
