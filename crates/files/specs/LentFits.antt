-- Fits as a look-up takes them.
--   fits_of fits       their list: pair by pair, or of two columns as far as both go
use Rattle.std.specs.Prelude.{List}
use Rattle.counting.specs.Pairs.{zip_pairs}
use Rattle.counting.specs.declared.Pair.{Pair}
use Rattle.files.specs.declared.look_up.LentFits.{LentFits}
use Rattle.files.specs.declared.look_up.LentFits.TheVariants.{Pairs, Columns}

abbrev pub fits_of : LentFits → List Pair
fits_of (Pairs fs) = fs.now
fits_of (Columns us vs) = zip_pairs us.now vs.now
