-- A stock as code is lent it.
--   stock_of S     the stock of the theory that it stands for
use Rattle.matching.specs.Stock.{Stock}
use Rattle.pairing.specs.Table.{stock}
use Rattle.pairing.specs.declared.stock.Stock as lent

abbrev pub stock_of : lent.Stock → Stock
stock_of S = stock S.cameras S.fits.now S.lit.now
