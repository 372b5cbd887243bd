-- Document 03's five promises, of files of bytes: each is one of Promises or StockPromises, or a part of it, with a premise more; the marks are those by
-- pairings alone.
--   reaches_by_paths, path_or_barrier, greatest_is, marks_are, sheets_tell    demands 2 and 3
use Rattle.matching.proofs.Marks.{pairing_mark_zero, pairing_mark_one}
use Rattle.matching.proofs.Promises.{well_formed_fits}
use Rattle.files.specs.StockFile.{stock_in}
use Rattle.files.proofs.AcceptedFiles.{accepted_stock}
use Rattle.lanes.specs.BytePromise.{ReachesByPaths, PathOrBarrier, GreatestIs, MarksAre, SheetsTell}
use Rattle.lanes.proofs.Promises as promises
use Rattle.lanes.proofs.StockPromises as stock

pub reaches_by_paths : ReachesByPaths
reaches_by_paths f w a = promises.reaches_by_paths f w a.1

pub path_or_barrier : PathOrBarrier
path_or_barrier f a = let r = promises.path_or_barrier f a.1 in (r.0, r.1)

pub greatest_is : GreatestIs
greatest_is f ps b e = promises.greatest_is f ps e

pub marks_are : MarksAre
marks_are f u b e h =
    let F = well_formed_fits (stock_in f) (accepted_stock f e) in
    (pairing_mark_zero (stock_in f).cameras (stock_in f).fits F u, pairing_mark_one (stock_in f).cameras (stock_in f).fits F u)

pub sheets_tell : SheetsTell
sheets_tell f g o p v w q r b c d e = stock.sheets_tell f g o p v w q r d e
