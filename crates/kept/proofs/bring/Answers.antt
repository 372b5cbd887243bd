-- `kept::bring` meets its contract: refused, or the stock that was read stands in the block.
use mathlib.Core.Path.{◌≡◌, refl, sym}
use lib.Seq.{length-take-le}
use Rattle.files.specs.StockFile.{stock_fault}
use Rattle.files.specs.Readers.{StockHeld}
use Rattle.files.proofs.StockFiles.{stock_held}
use Rattle.kept.proofs.Calls.{brought}
use Rattle.kept.proofs.bring.Goals as goal
use Rattle.kept.proofs.bring.Goals.{In_ok-stock}

held : (c : In_ok-stock) →
    let s = c.in_ok-stock.stock in
    StockHeld c.args.file.now c.read_stock.new.fits c.read_stock.new.lit s.cameras s.fits s.lit
held c = stock_held c.in_ok-stock.ensures refl

none : (c : In_ok-stock) → stock_fault c.args.file.now ≡ 0
none c = sym c.in_ok-stock.ensures.says

pub slice_bounds-fits-end : goal.slice_bounds-fits-end
slice_bounds-fits-end c = (held (goal.at.slice_bounds-fits-end c).In_ok-stock).fits_room

pub slice_bounds-put_stock-end : goal.slice_bounds-put_stock-end
slice_bounds-put_stock-end c = sym (length-take-le _ _ (held (goal.at.slice_bounds-put_stock-end c).In_ok-stock).fits_room)

pub returns : goal.returns
returns c = let at = (goal.at.returns c).In_ok-stock in brought (held at) (none at) c.put_stock.ensures
