-- A graph or a stock as it is read from a file: refused with the number of its first question answered no, or what the file holds.
--   GraphTaken file r     a graph
--   StockTaken file r     a stock
use Rattle.std.specs.Prelude.{◌≡◌, Result, Ok, Err, List, ℕ}
use Rattle.formats.specs.Refusals.{refusal_number}
use Rattle.formats.specs.declared.refusals.Refusal.{Refusal}
use Rattle.arcs.specs.Lent.{graph_of}
use Rattle.arcs.specs.declared.graph.Graph as graph
use Rattle.pairing.specs.Lent.{stock_of}
use Rattle.pairing.specs.declared.stock.Stock as stock
use Rattle.files.specs.GraphFile.{graph_in, graph_fault}
use Rattle.files.specs.StockFile.{stock_in, stock_fault}

abbrev pub GraphTaken : (file : List ℕ) → Result graph.Graph Refusal → Type 0
GraphTaken f (Ok g) = (graph_fault f ≡ 0) × (graph_of g ≡ graph_in f)
GraphTaken f (Err e) = refusal_number e ≡ graph_fault f

abbrev pub StockTaken : (file : List ℕ) → Result stock.Stock Refusal → Type 0
StockTaken f (Ok s) = (stock_fault f ≡ 0) × (stock_of s ≡ stock_in f)
StockTaken f (Err e) = refusal_number e ≡ stock_fault f
