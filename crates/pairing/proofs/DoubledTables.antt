-- The doubled table, written arc by arc: what is written and what is left are the whole.
--   cameras_size                  how many arcs the cameras have
--   fit_named                     a fit's cameras, the smaller first
--   fit_in_row, fit_room          the next fit's first camera is one of the row; its arcs fit
--   fit_next, fits_end            they are written; those of all are
--   paired_fits, row_low          the fits are of the row's cameras; partners are cameras
--   doubled, doubled_read         cameras and then fits are the doubled table; its arcs, read back
use Rattle.std.proofs.Common.{◌≡◌, ap, ◌∙◌, List, [], ◌++◌, ℕ, ◌+◌, ◌*◌, ◌≤◌, ◌<◌, length, get_or, take, drop, arith, length-append}
use Rattle.std.proofs.Math.ListN.{drop_of_length-le}
use Rattle.std.specs.Borrow.{MutBor}
use Rattle.formats.specs.Limits.{arcs_most}
use Rattle.counting.specs.Tests.{up_from, below}
use Rattle.counting.specs.Pairs.{no_pair}
use Rattle.counting.specs.SliceVecs.{Begun, Extended, Extending}
use Rattle.counting.specs.declared.Pair.{Pair}
use Rattle.counting.specs.declared.slice_vec.SliceVec.{SliceVec}
use Rattle.counting.proofs.Membership.{get_d_in}
use Rattle.counting.proofs.Range.{length_up}
use Rattle.counting.proofs.Loops.{next_in}
use Rattle.counting.proofs.SliceVecs.{extended_then, extended_taken, extending_next, extending_end, extending_room}
use Rattle.skew.specs.declared.Arc.{Arc}
use Rattle.matching.specs.Stock.{Stock}
use Rattle.matching.specs.Matching.{FitsBelow}
use Rattle.matching.specs.Row.{partner_in}
use Rattle.matching.specs.DoubledTable.{camera_arcs, arcs_of_fit, fit_arcs, doubled_table}
use Rattle.matching.proofs.Rising.{rising_ordered}
use Rattle.matching.proofs.Matchings.{matching_low}
use Rattle.matching.proofs.Rows.{row_partner}
use Rattle.matching.proofs.DoubledTable.{camera_arcs_rest, camera_size, table_size}
use Rattle.matching.proofs.Promises.{well_formed_fits}
use Rattle.pairing.specs.Table.{StockTable, PairedFits, arcs_of_cameras, arcs_of_fits, Doubled}

-- CAMERAS
pub cameras_size : (row : List ℕ) → length (arcs_of_cameras row (below (length row))) ≤ 2 * length row
cameras_size row = omega (arith, camera_size (length row) (partner_in row) (below (length row)) [], length_up 0 (length row))

-- FITS
pub fit_named : {s : Stock} (T : StockTable s) (i : ℕ) → i < length s.fits → let x = get_or s.fits i no_pair in (x.first < x.second) × (x.second < s.cameras)
fit_named {s} T i h =
    let W = well_formed_fits s T.well_formed in
    let x = get_or s.fits i no_pair in
    let m = get_d_in s.fits no_pair i h in
    (rising_ordered s.fits W.rising x m, W.named x m)

fits_size : (row : List ℕ) (fs : List Pair) → length (arcs_of_fits row fs) ≤ 2 * length fs
unfolding camera_arcs up_from
fits_size row fs = let h : length (arcs_of_fits row fs) ≤ 2 * 0 + 2 * length fs = table_size 0 fs (partner_in row) in omega arith

-- the arcs of the fits written, with those of the fits from i on left
module _ {row : List ℕ} {s : Stock} (T : StockTable s) (P : PairedFits row s) {v w : SliceVec Arc} {i : ℕ} (W : Extending v (arcs_of_fits row s.fits) w (arcs_of_fits row (drop i s.fits))) where
  pub fits_end : length s.fits ≤ i → Extended v (arcs_of_fits row s.fits) w
  unfolding fit_arcs
  fits_end h = extending_end W (ap (arcs_of_fits row) (drop_of_length-le s.fits {i = i} h))

  module _ (h : i < length s.fits) where
    abbrev x : Pair
    x = get_or s.fits i no_pair

    pub fit_in_row : x.first < length row
    fit_in_row = omega (arith, fit_named T i h, P.long)

    abbrev part : List Arc
    part = arcs_of_fit x.first x.second (get_or row x.first 0)

    split : arcs_of_fits row (drop i s.fits) ≡ part ++ arcs_of_fits row (drop (i + 1) s.fits)
    unfolding fit_arcs
    split = ap (arcs_of_fits row) (next_in s.fits no_pair i h).is ∙ rw (row_partner row x.first fit_in_row)

    pub fit_room : v.len + 2 * length s.fits ≤ length v.slice.now → w.len + length part ≤ length w.slice.now
    fit_room room =
        omega (arith, extending_room W (omega (arith, fits_size row s.fits)), ap length split, length-append part (arcs_of_fits row (drop (i + 1) s.fits)))

    pub fit_next : {w' : SliceVec Arc} → Extended w part w' → Extending v (arcs_of_fits row s.fits) w' (arcs_of_fits row (drop (i + 1) s.fits))
    fit_next e = extending_next W part split e

-- BOTH
module _ {row : List ℕ} {s : Stock} (T : StockTable s) (P : PairedFits row s) where
  abbrev n : ℕ
  n = length row

  pub paired_fits : FitsBelow n s.fits
  paired_fits = rw P.long (well_formed_fits s T.well_formed)

  pub row_low : (k : ℕ) → k < n → get_or row k 0 < n
  row_low k h = rw (← row_partner row k h) (matching_low n s.fits paired_fits (partner_in row) P.matching k h)

  pub doubled : {v u w : SliceVec Arc} → Extended v (arcs_of_cameras row (below n)) u → Extended u (arcs_of_fits row s.fits) w → Doubled row s.fits v w
  doubled A B = rw (← camera_arcs_rest n (partner_in row) (below n) (fit_arcs (partner_in row) s.fits)) (extended_then A B)

  -- its arcs, as a caller reads them who lent a place for each
  pub doubled_read : {slice : MutBor (List Arc)} {v w : SliceVec Arc} {arcs : List Arc} → Begun slice v → arcs_most ≤ length slice.now → Doubled row s.fits v w →
      arcs ≡ take w.len w.slice.now → arcs ≡ (doubled_table n s.fits (partner_in row)).arcs
  doubled_read B room D e =
      e ∙ extended_taken B.empty (omega (arith, table_size n s.fits (partner_in row), P.long, T.cameras_few, T.fits_few, ap length B.slice_is)) D
