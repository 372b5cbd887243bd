-- `lanes::calls::stock_in` meets its contract: a stock past its questions is within what they settle, and is the file's.
use Rattle.std.proofs.Common.{refl, sym, ap, List, length, arith}
use Rattle.counting.specs.declared.Pair.{Pair}
use Rattle.files.proofs.StockFiles.{stock_held}
use Rattle.files.proofs.AcceptedFiles.{accepted_stock, stock_few, fits_few}
use Rattle.lanes.proofs.calls.stock_in.Goals as goal

pub invariant_of-result : goal.invariant_of-result
invariant_of-result c =
    let read = c.in_ok-numbers.ensures in
    let h = stock_held read refl in
    let f = c.args.file.now in
    let none = sym read.says in
    record {
      is_table =
          record {
            cameras_few = omega (arith, h.cameras_are, stock_few f none);
            fits_few = omega (arith, ap (λ (zs : List Pair). length zs) h.fits_are, fits_few f none);
            well_formed = rw (h.cameras_are, h.fits_are, h.lit_are) (accepted_stock f none);
          };
    }

pub returns : goal.returns
returns c =
    let read = c.in_ok-numbers.ensures in
    let h = stock_held read refl in
    (sym read.says, rw (h.cameras_are, h.fits_are, h.lit_are))
