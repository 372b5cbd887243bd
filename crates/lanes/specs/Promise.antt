-- What is promised of every graph file and of every stock file. Each promise is a type; a term of the type is the theorem's proof. What the stock call's
-- answer tells is in StockPromise.
-- ReachesByPaths, PathOrBarrier, GreatestIs and MarksAre are document 03's (BytePromise has them as it states them), without its premise that a file's
-- elements are bytes; PathOrBarrier also says what has_path tells, and MarksAre what mark 2 does, and mark 3, which document 02's L2 brings. The
-- others are added. Those of demand 2 ask of a graph file what document 03's questions do (basic_graph_fault), so they hold of every accepted one, and of
-- those too that question 16 alone refuses (files/specs/SelfArcs, AcceptedIs and SixteenIs).
--   RefusalsLeave     demand 1: a refused call tells the first question answered no and no size, and leaves the buffer as it was
--   ReachesByPaths    demand 2: a node is reachable exactly if a regular path from the source ends there
--   PathOrBarrier     demand 2: a path and a barrier exclude each other, and without a path the canonical one is a barrier; has_path tells which
--   GreatestIs        demand 3: the greatest number of pairs, by all pairings of the file's fits; and there is a plan
--   MarksAre          demand 3: the marks 0 to 3, by all largest pairings and by the fits (matching/specs/Promise MarkMeans)
--   OneMark           exactly one of the four holds of a camera
--   MarksKept         what L2 changed: a camera with a fit has document 03's mark, one without had 0; marks 1 and 2 are as they were
--   Marked            G1 to G5 and S1 to S7
use Rattle.std.specs.Prelude.{◌≡◌, ◌↔◌, true, false, List, [], ◌∷◌, ℕ, ◌≤◌, ◌<◌, eqb, length}
use Rattle.counting.specs.Pairs.{pair}
use Rattle.counting.specs.declared.Pair.{Pair}
use Rattle.skew.specs.Graph.{arc, Graph, is_regular, is_wanted, is_reachable, has_path, is_barrier, canonical}
use Rattle.skew.specs.declared.Arc.{Arc}
use Rattle.skew.specs.Promise.{SomePath}
use Rattle.matching.specs.Promise.{HasFit, MarkMeans}
use Rattle.matching.specs.Stock.{is_pairing, greatest, pairing_mark, mark_of, marks_of, is_plan}
use Rattle.files.specs.GraphFile.{graph_in, basic_graph_fault}
use Rattle.files.specs.StockFile.{stock_in, stock_fault}
use Rattle.lanes.specs.Entry.{answer_fault, GraphOwes, stock_call_fault, StockOwes, budget_fault, BudgetOwes, Told, SearchedTold}

-- DEMAND 1
abbrev pub RefusalsLeave : Type 0
RefusalsLeave =
    ((c : ℕ) (f o v : List ℕ) (r : Told) → eqb (answer_fault c f (length o)) 0 ≡ false → GraphOwes c f o r v →
    (r.number ≡ answer_fault c f (length o)) × (r.size ≡ 0) × (v ≡ o)) ×
    ((c : ℕ) (f o v : List ℕ) (r : Told) → eqb (stock_call_fault c f (length o)) 0 ≡ false → StockOwes c f o r v →
    (r.number ≡ stock_call_fault c f (length o)) × (r.size ≡ 0) × (v ≡ o)) ×
    ((c b : ℕ) (f o v : List ℕ) (r : SearchedTold) → eqb (budget_fault c b f (length o)) 0 ≡ false → BudgetOwes c b f o r v →
    (r.told.number ≡ budget_fault c b f (length o)) × (r.told.size ≡ 0) × (r.searches ≡ 0) × (v ≡ o))

-- DEMAND 2
abbrev pub ReachesByPaths : Type 0
ReachesByPaths =
    (f : List ℕ) (w : ℕ) → basic_graph_fault f ≡ 0 → (is_reachable (graph_in f) w ≡ true) ↔ SomePath (graph_in f) w

abbrev pub PathOrBarrier : Type 0
PathOrBarrier =
    (f : List ℕ) → basic_graph_fault f ≡ 0 →
    (has_path (graph_in f) ≡ false → is_barrier (graph_in f) (canonical (graph_in f)) ≡ true) ×
    ((is cs : List ℕ) → is_wanted (graph_in f) is ≡ true → is_barrier (graph_in f) cs ≡ false) ×
    ((has_path (graph_in f) ≡ true) ↔ ((is : List ℕ) × (is_wanted (graph_in f) is ≡ true)))

-- the greatest number of pairs, and some plan for every stock
abbrev pub GreatestIs : Type 0
GreatestIs =
    (f : List ℕ) (ps : List Pair) → stock_fault f ≡ 0 →
    (is_pairing (stock_in f).fits ps ≡ true → length ps ≤ greatest (stock_in f).fits) ×
    ((qs : List Pair) × ((is_pairing (stock_in f).fits qs ≡ true) × (length qs ≡ greatest (stock_in f).fits))) ×
    ((qs : List Pair) × (is_plan (stock_in f) qs ≡ true))

-- a mark, by largest pairings and by fits
abbrev pub MarksAre : Type 0
MarksAre =
    (f : List ℕ) (u m : ℕ) → stock_fault f ≡ 0 → u < (stock_in f).cameras →
    (mark_of (stock_in f).fits u ≡ m) ↔ MarkMeans (stock_in f).fits u m

abbrev pub OneMark : Type 0
OneMark =
    (f : List ℕ) (u : ℕ) → stock_fault f ≡ 0 → u < (stock_in f).cameras →
    (m : ℕ) × ((m ≤ 3) × MarkMeans (stock_in f).fits u m × ((k : ℕ) → MarkMeans (stock_in f).fits u k → k ≡ m))

abbrev pub MarksKept : Type 0
MarksKept =
    (f : List ℕ) (u : ℕ) → stock_fault f ≡ 0 → u < (stock_in f).cameras →
    (HasFit (stock_in f).fits u → mark_of (stock_in f).fits u ≡ pairing_mark (stock_in f).fits u) ×
    ((HasFit (stock_in f).fits u → true ≡ false) → pairing_mark (stock_in f).fits u ≡ 0) ×
    ((mark_of (stock_in f).fits u ≡ 1) ↔ (pairing_mark (stock_in f).fits u ≡ 1)) ×
    ((mark_of (stock_in f).fits u ≡ 2) ↔ (pairing_mark (stock_in f).fits u ≡ 2))

-- THE MARKED SET
abbrev pub graph_of : (pairs : ℕ) → List Arc → Graph
graph_of n xs = record { pairs = n; source = 0; arcs = xs }

abbrev pub g3 : List Arc
g3 = arc 0 2 ∷ arc 3 1 ∷ []

abbrev pub g4 : List Arc
g4 = arc 0 2 ∷ arc 3 1 ∷ arc 2 3 ∷ arc 2 3 ∷ []

abbrev pub g5 : List Arc
g5 = arc 0 2 ∷ arc 3 1 ∷ arc 2 3 ∷ arc 2 3 ∷ arc 0 2 ∷ arc 3 1 ∷ []

abbrev pub Barred : (pairs : ℕ) → List Arc → (classes : List ℕ) → Type 0
Barred n xs cs =
    (has_path (graph_of n xs) ≡ false) × (canonical (graph_of n xs) ≡ cs) × (is_barrier (graph_of n xs) cs ≡ true)

abbrev pub StockGives : (cameras : ℕ) → (fits : List Pair) → (pairs : ℕ) → (marks : List ℕ) → Type 0
StockGives n fs k ms = (greatest fs ≡ k) × (marks_of n fs ≡ ms)

abbrev pub triangles : List Pair
triangles = pair 0 1 ∷ pair 0 2 ∷ pair 1 2 ∷ pair 2 3 ∷ pair 3 4 ∷ pair 3 5 ∷ pair 4 5 ∷ []

abbrev pub Marked : Type 0
Marked =
    Barred 1 [] (1 ∷ 2 ∷ []) × (is_wanted (graph_of 1 (arc 0 1 ∷ arc 0 1 ∷ [])) (0 ∷ []) ≡ true) ×
    (is_wanted (graph_of 1 (arc 0 1 ∷ arc 0 1 ∷ [])) (1 ∷ []) ≡ true) × Barred 2 g3 (1 ∷ 2 ∷ 1 ∷ 2 ∷ []) ×
    Barred 2 g4 (1 ∷ 2 ∷ 3 ∷ 3 ∷ []) × (is_regular (graph_of 2 g4) (0 ∷ 2 ∷ 1 ∷ []) ≡ false) ×
    (is_wanted (graph_of 2 g5) (0 ∷ 2 ∷ 5 ∷ []) ≡ true) × StockGives 0 [] 0 [] × StockGives 2 (pair 0 1 ∷ []) 1 (2 ∷ 2 ∷ []) ×
    StockGives 3 (pair 0 1 ∷ pair 0 2 ∷ pair 1 2 ∷ []) 1 (0 ∷ 0 ∷ 0 ∷ []) ×
    StockGives 4 (pair 0 1 ∷ pair 0 2 ∷ pair 0 3 ∷ []) 1 (1 ∷ 0 ∷ 0 ∷ 0 ∷ []) ×
    (is_plan (record { cameras = 4; fits = pair 0 1 ∷ pair 1 2 ∷ pair 2 3 ∷ []; lit = pair 1 2 ∷ [] }) (pair 0 1 ∷ pair 2 3 ∷ []) ≡ true) ×
    StockGives 5 (pair 0 1 ∷ pair 0 4 ∷ pair 1 2 ∷ pair 2 3 ∷ pair 3 4 ∷ []) 2 (0 ∷ 0 ∷ 0 ∷ 0 ∷ 0 ∷ []) ×
    StockGives 6 triangles 3 (2 ∷ 2 ∷ 2 ∷ 2 ∷ 2 ∷ 2 ∷ [])
