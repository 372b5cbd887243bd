-- What is lent, and what is written.
--   stock n fs ls                      the stock of n cameras with these fits and lit pairs
--   StockTable s                       what the questions put to a stock settle
--   PairedFits row s                   the row pairs the stock's cameras by its fits
--   Put before at after next xs        the elements stand in the table from `at` on, `next` is the place behind them, all else is as before
--   arcs_of_cameras row cameras, arcs_of_fits row fits    the arcs that the row gives these cameras, and these fits
--   FlagsSet s flags i                 the flags of the fits before place i are set: with those of the others, all are
--   marks_read flags nodes             the marks read off the cameras' flags and those of their nodes, two for each
--   Doubled row fits before after      the arcs of the row's doubled table are written behind a list, all else is as before
use Rattle.std.specs.Prelude.{◌≡◌, ◌||◌, Bool, List, [], ◌∷◌, ℕ, ◌+◌, ◌≤◌, length, drop}
use Rattle.std.proofs.lemmas.List.Edits.{sets}
use Rattle.formats.specs.Limits.{cameras_most, fits_most}
use Rattle.counting.specs.Tests.{pick}
use Rattle.counting.specs.SliceVecs.{Extended}
use Rattle.counting.specs.declared.Pair.{Pair}
use Rattle.counting.specs.declared.slice_vec.SliceVec.{SliceVec}
use Rattle.skew.specs.declared.Arc.{Arc}
use Rattle.matching.specs.Stock.{Stock, is_included}
use Rattle.matching.specs.Promise.{WellFormedStock}
use Rattle.matching.specs.Matching.{Matching}
use Rattle.matching.specs.Row.{partner_in}
use Rattle.matching.specs.Flags.{is_flagged}
use Rattle.matching.specs.DoubledTable.{camera_arcs, fit_arcs, doubled_table}

abbrev pub stock : (cameras : ℕ) → (fits lit : List Pair) → Stock
stock n fs ls = record { cameras = n; fits = fs; lit = ls }

pub record StockTable (s : Stock) : Type 0 where
  pub cameras_few : s.cameras ≤ cameras_most
  pub fits_few : length s.fits ≤ fits_most
  pub well_formed : WellFormedStock s

pub record PairedFits (row : List ℕ) (s : Stock) : Type 0 where
  pub long : length row ≡ s.cameras
  pub matching : Matching s.fits (partner_in row)

pub record Put {A : Type 0} (before : List A) (at : ℕ) (after : List A) (next : ℕ) (xs : List A) : Type 0 where
  pub entries : after ≡ sets before at xs
  pub count : next ≡ at + length xs

abbrev pub arcs_of_cameras : (row cameras : List ℕ) → List Arc
arcs_of_cameras row ks = camera_arcs (length row) (partner_in row) ks []

abbrev pub arcs_of_fits : (row : List ℕ) → (fits : List Pair) → List Arc
arcs_of_fits row fits = fit_arcs (partner_in row) fits

pub record FlagsSet (s : Stock) (flags : List Bool) (i : ℕ) : Type 0 where
  pub long : length flags ≡ s.cameras
  pub tells : (u : ℕ) → is_included s.fits u ≡ (is_flagged flags u || is_included (drop i s.fits) u)

unfoldable pub marks_read : (flags nodes : List Bool) → List ℕ
marks_read [] ns = []
marks_read (b ∷ bs) [] = []
marks_read (b ∷ bs) (o ∷ []) = []
marks_read (b ∷ bs) (o ∷ i ∷ ns) = pick b (pick o 0 (pick i 1 2)) 3 ∷ marks_read bs ns

abbrev pub Doubled : (row : List ℕ) (fits : List Pair) (before after : SliceVec Arc) → Type 0
Doubled row fits before after = Extended before (doubled_table (length row) fits (partner_in row)).arcs after
