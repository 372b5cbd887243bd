-- What reading a file answers: the number of the first question answered no, or 0 and what the file holds, in slices that the caller lends.
-- Beside a refusal the other numbers are 0; the slices hold what was stored before it, and nothing else in them differs.
--   no_graph, no_stock              the numbers beside a refusal
--   GraphHeld, GraphRead            a graph: its mate pairs, its source and its arcs
--   StockHeld, StockRead            a stock: its cameras, its fits and its lit pairs
--   PlanHeld, PlanRead              a plan: its pairs, asked against a stock's cameras and fits
use Rattle.std.specs.Prelude.{◌≡◌, List, ℕ, ◌≤◌, length, take}
use Rattle.counting.specs.declared.Pair.{Pair}
use Rattle.skew.specs.Graph.{arcs_of}
use Rattle.skew.specs.declared.Arc.{Arc}
use Rattle.frames.specs.Questions.{answered}
use Rattle.frames.specs.Stores.{StoredFirst}
use Rattle.files.specs.GraphFile.{graph_in, graph_fault, arcs_stored}
use Rattle.files.specs.StockFile.{stock_in, stock_fault, fits_stored, lit_stored}
use Rattle.files.specs.PlanFile.{plan_pairs, plan_fault, plan_stored}
use Rattle.files.specs.declared.graphs.GraphNumbers.{GraphNumbers}
use Rattle.files.specs.declared.stocks.StockNumbers.{StockNumbers}

-- A GRAPH
abbrev pub no_graph : GraphNumbers
no_graph = record { pairs = 0; source = 0; arcs = 0 }

pub record GraphHeld (f : List ℕ) (arcs : List Arc) (pairs source count : ℕ) : Type 0 where
  pub pairs_are : pairs ≡ (graph_in f).pairs
  pub source_is : source ≡ (graph_in f).source
  pub room : count ≤ length arcs
  pub arcs_are : take count arcs ≡ (graph_in f).arcs

pub record GraphRead (f : List ℕ) (arcs arcs_after : List Arc) (number pairs source count : ℕ) : Type 0 where
  pub says : number ≡ graph_fault f
  pub pairs_are : pairs ≡ answered number (graph_in f).pairs
  pub source_is : source ≡ answered number (graph_in f).source
  pub arcs_are : count ≡ answered number (length (graph_in f).arcs)
  pub stores : StoredFirst (arcs_of (arcs_stored f)) arcs arcs_after

-- A STOCK
abbrev pub no_stock : StockNumbers
no_stock = record { cameras = 0; fits = 0; lit = 0 }

pub record StockHeld (f : List ℕ) (fits lit : List Pair) (cameras count lit_count : ℕ) : Type 0 where
  pub cameras_are : cameras ≡ (stock_in f).cameras
  pub fits_room : count ≤ length fits
  pub fits_are : take count fits ≡ (stock_in f).fits
  pub lit_room : lit_count ≤ length lit
  pub lit_are : take lit_count lit ≡ (stock_in f).lit

pub record StockRead (f : List ℕ) (fits lit fits_after lit_after : List Pair) (number cameras count lit_count : ℕ) : Type 0 where
  pub says : number ≡ stock_fault f
  pub cameras_are : cameras ≡ answered number (stock_in f).cameras
  pub fits_are : count ≡ answered number (length (stock_in f).fits)
  pub lit_are : lit_count ≡ answered number (length (stock_in f).lit)
  pub stores : StoredFirst (fits_stored f) fits fits_after
  pub stores_lit : StoredFirst (lit_stored f) lit lit_after

-- A PLAN
pub record PlanHeld (f : List ℕ) (pairs : List Pair) (count : ℕ) : Type 0 where
  pub room : count ≤ length pairs
  pub pairs_are : take count pairs ≡ plan_pairs f

pub record PlanRead (cameras : ℕ) (fits : List Pair) (f : List ℕ) (pairs pairs_after : List Pair) (number count : ℕ) : Type 0 where
  pub says : number ≡ plan_fault cameras fits f
  pub counts : count ≡ answered number (length (plan_pairs f))
  pub stores : StoredFirst (plan_stored f) pairs pairs_after
