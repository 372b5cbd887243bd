-- Five promises as document 03 states them: of files whose elements are bytes. Promise and StockPromise say as much or more, of every file: of four under
-- the same name.
-- Document 03's markOf is pairing_mark here, since document 02's L2 gives cameras without a fit a mark of their own; there MarksAre speaks of the new mark,
-- and MarksKept says how the two differ. Its graph_fault is basic_graph_fault, since L5 asks one question more. Its sheet is the sheet half of the stock call's
-- answer, since L6.
--   are_bytes           every element is a byte
--   IsGraphFile        bytes that document 03's questions of a graph file accept
--   ReachesByPaths, PathOrBarrier, GreatestIs, MarksAre, SheetsTell    demands 2 and 3, of files of bytes
use Rattle.std.specs.Prelude.{◌≡◌, ◌↔◌, Bool, true, false, ◌&&◌, List, [], ◌∷◌, ℕ, ◌≤◌, ◌<◌, leb, length}
use Rattle.counting.specs.declared.Pair.{Pair}
use Rattle.skew.specs.Graph.{is_wanted, is_reachable, has_path, is_barrier, canonical}
use Rattle.skew.specs.Promise.{SomePath}
use Rattle.matching.specs.Promise.{LeftBySome, FitsSomeLeft}
use Rattle.matching.specs.Stock.{is_pairing, greatest, pairing_mark, is_plan}
use Rattle.files.specs.GraphFile.{graph_in, basic_graph_fault}
use Rattle.files.specs.StockFile.{stock_in, stock_fault, alike}
use Rattle.lanes.specs.Entry.{sheet_of_file, Told}
use Rattle.lanes.specs.StockPromise.{AnsweredWith, sheet_half}

unfoldable pub are_bytes : List ℕ → Bool
are_bytes [] = true
are_bytes (b ∷ bs) = leb b 255 && are_bytes bs

abbrev pub IsGraphFile : (file : List ℕ) → Type 0
IsGraphFile f = (are_bytes f ≡ true) × (basic_graph_fault f ≡ 0)

abbrev pub ReachesByPaths : Type 0
ReachesByPaths =
    (f : List ℕ) (w : ℕ) → IsGraphFile f → (is_reachable (graph_in f) w ≡ true) ↔ SomePath (graph_in f) w

abbrev pub PathOrBarrier : Type 0
PathOrBarrier =
    (f : List ℕ) → IsGraphFile f →
    (has_path (graph_in f) ≡ false → is_barrier (graph_in f) (canonical (graph_in f)) ≡ true) ×
    ((is cs : List ℕ) → is_wanted (graph_in f) is ≡ true → is_barrier (graph_in f) cs ≡ false)

abbrev pub GreatestIs : Type 0
GreatestIs =
    (f : List ℕ) (ps : List Pair) → are_bytes f ≡ true → stock_fault f ≡ 0 →
    (is_pairing (stock_in f).fits ps ≡ true → length ps ≤ greatest (stock_in f).fits) ×
    ((qs : List Pair) × ((is_pairing (stock_in f).fits qs ≡ true) × (length qs ≡ greatest (stock_in f).fits))) ×
    ((qs : List Pair) × (is_plan (stock_in f) qs ≡ true))

abbrev pub MarksAre : Type 0
MarksAre =
    (f : List ℕ) (u : ℕ) → are_bytes f ≡ true → stock_fault f ≡ 0 → u < (stock_in f).cameras →
    ((pairing_mark (stock_in f).fits u ≡ 0) ↔ LeftBySome (stock_in f).fits u) ×
    ((pairing_mark (stock_in f).fits u ≡ 1) ↔
    ((LeftBySome (stock_in f).fits u → true ≡ false) × FitsSomeLeft (stock_in f).fits u))

abbrev pub SheetsTell : Type 0
SheetsTell =
    (f g o p v w : List ℕ) (q r : Told) → are_bytes f ≡ true → are_bytes g ≡ true → AnsweredWith f o q v → AnsweredWith g p r w →
    ((sheet_half f q v ≡ sheet_half g r w) ↔ (alike (stock_in f) (stock_in g) ≡ true)) × (sheet_half f q v ≡ sheet_of_file f)
