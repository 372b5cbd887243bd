-- Known graphs and stocks as files (document 01, "Known graphs and stocks"): what is accepted, refused, checked and written, byte for byte. So the
-- promises, which speak of accepted files, speak of these.
--   arc_lines, graph_file_of              arcs as they are written; a graph with the source 0 as a file
--   g1_file, g4_file, g5_file, s5_file    G1, G4, G5 and S5
--   KnownFiles                            what the questions and the check say of them, and of files that are cut short
--   KnownTexts                            G1's answer, the sheets of S1 and S3 and the plan of S5, as the document prints them
--   header, ending, throughout            G1's two lines without their ends; a file with every line feed after a carriage return
--   KnownEnds                             files with such ends, answered alike; files whose lines are ended otherwise, refused with 3
--   four_marks, four_marks_file           a stock of eight cameras with every mark, two of them without a fit
--   KnownIsolated                         the sheets of three stocks with cameras without a fit
--   s5, s5_plan, no_cameras               S5, its plan; no cameras
--   triangle_lit ls                       S3 with these pairs lit
--   KnownAnswers                          the stock call's answers to S1 and S5, byte for byte; S3's sheet half, whichever pairs are lit
--   one_fit                               so many cameras, of which two fit each other
--   Budgets                               a pairing is one that so many searches may come to, with these numbers in the header
--   KnownBudgets                          S5's answers to budgets of 0, 1, 2 and 64 searches, and edges
--   KnownSelfArcs                         question 16, with those before and after it, and in the check; an arc to a node's mate
--   counts p b s r                        a caller's counts: paths, barriers, stocks, refusals
--   some_calls, after_them                calls of several callers, a check and wrong callers among them; the tally that they leave
--   near_largest n                        a tally with counts at their largest, the grader's barriers being n
--   KnownCallers                          question 17 before 1 and 15; those calls, one caller's own among them, and their sum; counts at their largest
use Rattle.std.specs.Prelude.{◌≡◌, true, false, List, [], ◌∷◌, ◌++◌, ℕ, suc, eqb, length, drop}
use Rattle.formats.specs.Kinds.{arc_kind, budget_end, budget_kind, fit_kind, graph_end, graph_kind, lit_kind, mark_kind, sheet_end, sheet_kind, stock_end, stock_kind}
use Rattle.frames.specs.Frames.{or_else, frame4, frame6, frame8, frame_of4}
use Rattle.frames.specs.EitherEnd.{with_returns}
use Rattle.skew.specs.Graph.{arc, is_barrier, canonical}
use Rattle.skew.specs.declared.Arc.{Arc}
use Rattle.counting.specs.Pairs.{pair}
use Rattle.counting.specs.declared.Pair.{Pair}
use Rattle.matching.specs.Stock.{Stock, is_plan}
use Rattle.matching.specs.Budget.{gain, is_budgeted, search_one_by_one}
use Rattle.files.specs.GraphFile.{graph_in, graph_fault, basic_graph_fault}
use Rattle.files.specs.StockFile.{stock_in, stock_fault, plan_lines, plan_text, plan_and_sheet, sheet_text}
use Rattle.files.specs.CertificateFile.{path_text, barrier_text}
use Rattle.lanes.specs.Entry.{sheet_of_file, check_post, answer_fault, stock_call_fault, most_fault, budget_fault, budget_text_of, Refused, Yes, No}
use Rattle.lanes.specs.Tallies.{Call, call, check, graph, stock, budget, outcome_of, tallied, after_calls}
use Rattle.lanes.specs.Promise.{graph_of, g4, g5}
use Rattle.lanes.specs.StockPromise.{sheet_place, pairs_read}
use Rattle.lanes.specs.CallerPromise.{own_calls, total_of, counted_calls, zeros}
use Rattle.lanes.specs.declared.Counts.{Counts}
use Rattle.lanes.specs.declared.Tally.{Tally}
use Rattle.lanes.specs.declared.Outcome.TheVariants.{Path, Barrier}

abbrev pub arc_lines : List Arc → List ℕ
arc_lines [] = []
arc_lines (x ∷ xs) = frame6 arc_kind x.tail x.head ++ arc_lines xs

abbrev pub graph_file_of : (pairs : ℕ) → List Arc → List ℕ
graph_file_of n xs = frame6 graph_kind n 0 ++ arc_lines xs ++ frame_of4 graph_end (length xs)

abbrev pub g1_file : List ℕ
g1_file = graph_file_of 1 []

abbrev pub g4_file : List ℕ
g4_file = graph_file_of 2 g4

abbrev pub g5_file : List ℕ
g5_file = graph_file_of 2 g5

abbrev pub s5_file : List ℕ
s5_file =
    frame4 stock_kind 4 ++ frame6 fit_kind 0 1 ++ frame6 fit_kind 1 2 ++ frame6 fit_kind 2 3 ++ frame6 lit_kind 1 2 ++ frame_of4 stock_end 4

abbrev pub KnownFiles : Type 0
KnownFiles =
    (graph_fault g1_file ≡ 0) × (graph_in g1_file ≡ graph_of 1 []) × (graph_fault g4_file ≡ 0) × (graph_in g4_file ≡ graph_of 2 g4) ×
    (graph_fault g5_file ≡ 0) × (graph_in g5_file ≡ graph_of 2 g5) × (graph_fault [] ≡ 4) × (graph_fault (frame6 graph_kind 1 0) ≡ 6) ×
    (stock_fault s5_file ≡ 0) ×
    (stock_in s5_file ≡ record { cameras = 4; fits = pair 0 1 ∷ pair 1 2 ∷ pair 2 3 ∷ []; lit = pair 1 2 ∷ [] }) × (stock_fault [] ≡ 4) ×
    (check_post g1_file (barrier_text (canonical (graph_in g1_file))) ≡ Yes) × (check_post g4_file (path_text (0 ∷ 2 ∷ 1 ∷ [])) ≡ No) ×
    (check_post g5_file (path_text (0 ∷ 2 ∷ 5 ∷ [])) ≡ Yes) × (check_post g5_file (path_text []) ≡ No) × (check_post g5_file [] ≡ Refused 44) ×
    (check_post [] g5_file ≡ Refused 4)

-- 31, 320001, 320102, 3F0002; 4100, 4F0000; 4101, 430000, 430100, 430200, 4F0003; 5102, 520001, 520203, 5F0002
abbrev pub KnownTexts : Type 0
KnownTexts =
    (barrier_text (canonical (graph_in g1_file)) ≡
    (51 ∷ 49 ∷ 10 ∷ 51 ∷ 50 ∷ 48 ∷ 48 ∷ 48 ∷ 49 ∷ 10 ∷ 51 ∷ 50 ∷ 48 ∷ 49 ∷ 48 ∷ 50 ∷ 10 ∷ 51 ∷ 70 ∷ 48 ∷ 48 ∷ 48 ∷ 50 ∷ 10 ∷ [])) ×
    (sheet_text 0 [] ≡ (52 ∷ 49 ∷ 48 ∷ 48 ∷ 10 ∷ 52 ∷ 70 ∷ 48 ∷ 48 ∷ 48 ∷ 48 ∷ 10 ∷ [])) ×
    (sheet_text 3 (pair 0 1 ∷ pair 0 2 ∷ pair 1 2 ∷ []) ≡
    (52 ∷ 49 ∷ 48 ∷ 49 ∷ 10 ∷ 52 ∷ 51 ∷ 48 ∷ 48 ∷ 48 ∷ 48 ∷ 10 ∷ 52 ∷ 51 ∷ 48 ∷ 49 ∷ 48 ∷ 48 ∷ 10 ∷ 52 ∷ 51 ∷ 48 ∷ 50 ∷ 48 ∷ 48 ∷ 10 ∷
    52 ∷ 70 ∷ 48 ∷ 48 ∷ 48 ∷ 51 ∷ 10 ∷ [])) ×
    (plan_text (pair 0 1 ∷ pair 2 3 ∷ []) ≡
    (53 ∷ 49 ∷ 48 ∷ 50 ∷ 10 ∷ 53 ∷ 50 ∷ 48 ∷ 48 ∷ 48 ∷ 49 ∷ 10 ∷ 53 ∷ 50 ∷ 48 ∷ 50 ∷ 48 ∷ 51 ∷ 10 ∷ 53 ∷ 70 ∷ 48 ∷ 48 ∷ 48 ∷ 50 ∷ 10 ∷ []))

-- LINE ENDS (document 02, L1)
abbrev pub header : List ℕ
header = 48 ∷ 49 ∷ 48 ∷ 49 ∷ 48 ∷ 48 ∷ []

abbrev pub ending : List ℕ
ending = 48 ∷ 70 ∷ 48 ∷ 48 ∷ 48 ∷ 48 ∷ []

abbrev pub throughout : (file : List ℕ) → List ℕ
throughout f = with_returns (λ i. true) f

-- G1 with carriage returns, to which no second ones are put; S5 with one, before the header's line feed at 4; both files of a check; then a
-- carriage return inside a line, as the only end, twice before a line feed, at the file's end and after the line feed, an empty line with either
-- end, and line 31 ended by a carriage return alone
abbrev pub KnownEnds : Type 0
KnownEnds =
    (throughout g1_file ≡ header ++ (13 ∷ 10 ∷ []) ++ ending ++ (13 ∷ 10 ∷ [])) × (throughout (throughout g1_file) ≡ throughout g1_file) ×
    (graph_fault (throughout g1_file) ≡ 0) × (graph_in (throughout g1_file) ≡ graph_in g1_file) ×
    (stock_fault (with_returns (eqb 4) s5_file) ≡ 0) × (stock_in (with_returns (eqb 4) s5_file) ≡ stock_in s5_file) ×
    (length (with_returns (eqb 4) s5_file) ≡ suc (length s5_file)) ×
    (check_post (throughout g1_file) (throughout (barrier_text (canonical (graph_in g1_file)))) ≡ Yes) ×
    (check_post (throughout g5_file) (throughout (path_text (0 ∷ 2 ∷ 5 ∷ []))) ≡ Yes) ×
    (graph_fault ((48 ∷ 49 ∷ 13 ∷ 48 ∷ 49 ∷ 48 ∷ 48 ∷ 10 ∷ []) ++ ending ++ (10 ∷ [])) ≡ 3) ×
    (graph_fault (header ++ (13 ∷ []) ++ ending ++ (13 ∷ [])) ≡ 3) ×
    (graph_fault (header ++ (13 ∷ 13 ∷ 10 ∷ []) ++ ending ++ (10 ∷ [])) ≡ 3) × (graph_fault (g1_file ++ (13 ∷ [])) ≡ 3) ×
    (graph_fault (header ++ (10 ∷ 13 ∷ []) ++ ending ++ (10 ∷ [])) ≡ 3) × (graph_fault (g1_file ++ (10 ∷ [])) ≡ 3) ×
    (graph_fault (g1_file ++ (13 ∷ 10 ∷ [])) ≡ 3) × (stock_fault (13 ∷ 10 ∷ []) ≡ 3) ×
    (check_post g1_file ((51 ∷ 49 ∷ 13 ∷ []) ++ drop 3 (barrier_text (canonical (graph_in g1_file)))) ≡ Refused 43)

-- CAMERAS WITHOUT A FIT (document 02, L2)
-- 1 fits 2, 3 and 4, and 5 fits 6; 1 and 2 are lit; 0 and 7 fit nobody
abbrev pub four_marks : Stock
four_marks = record { cameras = 8; fits = pair 1 2 ∷ pair 1 3 ∷ pair 1 4 ∷ pair 5 6 ∷ []; lit = pair 1 2 ∷ [] }

abbrev pub four_marks_file : List ℕ
four_marks_file =
    frame4 stock_kind 8 ++ frame6 fit_kind 1 2 ++ frame6 fit_kind 1 3 ++ frame6 fit_kind 1 4 ++ frame6 fit_kind 5 6 ++ frame6 lit_kind 1 2 ++
    frame_of4 stock_end 5

-- one camera: 4100, 430003, 4F0001; three with the fit of 0 and 1: 4101, 430002, 430102, 430203, 4F0003; four_marks
abbrev pub KnownIsolated : Type 0
KnownIsolated =
    (sheet_text 1 [] ≡ (52 ∷ 49 ∷ 48 ∷ 48 ∷ 10 ∷ 52 ∷ 51 ∷ 48 ∷ 48 ∷ 48 ∷ 51 ∷ 10 ∷ 52 ∷ 70 ∷ 48 ∷ 48 ∷ 48 ∷ 49 ∷ 10 ∷ [])) ×
    (sheet_text 3 (pair 0 1 ∷ []) ≡
    (52 ∷ 49 ∷ 48 ∷ 49 ∷ 10 ∷ 52 ∷ 51 ∷ 48 ∷ 48 ∷ 48 ∷ 50 ∷ 10 ∷ 52 ∷ 51 ∷ 48 ∷ 49 ∷ 48 ∷ 50 ∷ 10 ∷ 52 ∷ 51 ∷ 48 ∷ 50 ∷ 48 ∷ 51 ∷ 10 ∷
    52 ∷ 70 ∷ 48 ∷ 48 ∷ 48 ∷ 51 ∷ 10 ∷ [])) ×
    (stock_fault four_marks_file ≡ 0) × (stock_in four_marks_file ≡ four_marks) ×
    (sheet_of_file four_marks_file ≡
    frame4 sheet_kind 2 ++ frame6 mark_kind 0 3 ++ frame6 mark_kind 1 1 ++ frame6 mark_kind 2 0 ++ frame6 mark_kind 3 0 ++ frame6 mark_kind 4 0 ++
    frame6 mark_kind 5 2 ++ frame6 mark_kind 6 2 ++ frame6 mark_kind 7 3 ++ frame_of4 sheet_end 8) ×
    (is_plan four_marks (pair 1 2 ∷ pair 5 6 ∷ []) ≡ true)

-- A PLAN AND THE SHEET BEHIND IT (document 02, L6)
abbrev pub s5 : Stock
s5 = stock_in s5_file

abbrev pub s5_plan : List Pair
s5_plan = pair 0 1 ∷ pair 2 3 ∷ []

abbrev pub no_cameras : Stock
no_cameras = record { cameras = 0; fits = []; lit = [] }

abbrev pub triangle_lit : (lit : List Pair) → Stock
triangle_lit ls = record { cameras = 3; fits = pair 0 1 ∷ pair 0 2 ∷ pair 1 2 ∷ []; lit = ls }

-- S1: 5100, 5F0000, 4100, 4F0000. S5: its plan, then 4102, 430002, 430102, 430202, 430302, 4F0004, from 26 on. S3, with 0 and 2 lit and with none: the plan
-- keeps what is lit, and the sheet half is the same, from 19 on. Last, S5's plan read back
abbrev pub KnownAnswers : Type 0
KnownAnswers =
    (is_plan no_cameras [] ≡ true) × (sheet_place [] ≡ 12) × (plan_and_sheet no_cameras [] ≡
    (53 ∷ 49 ∷ 48 ∷ 48 ∷ 10 ∷ 53 ∷ 70 ∷ 48 ∷ 48 ∷ 48 ∷ 48 ∷ 10 ∷ 52 ∷ 49 ∷ 48 ∷ 48 ∷ 10 ∷ 52 ∷ 70 ∷ 48 ∷ 48 ∷ 48 ∷ 48 ∷ 10 ∷
    [])) ×
    (is_plan s5 s5_plan ≡ true) × (sheet_place s5.fits ≡ 26) × (plan_and_sheet s5 s5_plan ≡
    (53 ∷ 49 ∷ 48 ∷ 50 ∷ 10 ∷ 53 ∷ 50 ∷ 48 ∷ 48 ∷ 48 ∷ 49 ∷ 10 ∷ 53 ∷ 50 ∷ 48 ∷ 50 ∷ 48 ∷ 51 ∷ 10 ∷ 53 ∷ 70 ∷ 48 ∷ 48 ∷ 48 ∷
    50 ∷ 10 ∷ 52 ∷ 49 ∷ 48 ∷ 50 ∷ 10 ∷ 52 ∷ 51 ∷ 48 ∷ 48 ∷ 48 ∷ 50 ∷ 10 ∷ 52 ∷ 51 ∷ 48 ∷ 49 ∷ 48 ∷ 50 ∷ 10 ∷ 52 ∷ 51 ∷ 48 ∷
    50 ∷ 48 ∷ 50 ∷ 10 ∷ 52 ∷ 51 ∷ 48 ∷ 51 ∷ 48 ∷ 50 ∷ 10 ∷ 52 ∷ 70 ∷ 48 ∷ 48 ∷ 48 ∷ 52 ∷ 10 ∷ [])) ×
    (is_plan (triangle_lit (pair 0 2 ∷ [])) (pair 0 2 ∷ []) ≡ true) × (is_plan (triangle_lit (pair 0 2 ∷ [])) (pair 0 1 ∷ []) ≡ false) ×
    (is_plan (triangle_lit []) (pair 0 1 ∷ []) ≡ true) × (sheet_place (triangle_lit []).fits ≡ 19) ×
    (drop 19 (plan_and_sheet (triangle_lit (pair 0 2 ∷ [])) (pair 0 2 ∷ [])) ≡ drop 19 (plan_and_sheet (triangle_lit []) (pair 0 1 ∷ []))) ×
    (drop 19 (plan_and_sheet (triangle_lit []) (pair 0 1 ∷ [])) ≡
    frame4 sheet_kind 1 ++ frame6 mark_kind 0 0 ++ frame6 mark_kind 1 0 ++ frame6 mark_kind 2 0 ++ frame_of4 sheet_end 3) ×
    (pairs_read (plan_text s5_plan) ≡ s5_plan)

-- A BUDGET OF SEARCHES (document 02, L4)
abbrev pub one_fit : (cameras : ℕ) → Stock
one_fit n = record { cameras = n; fits = pair 0 1 ∷ []; lit = [] }

abbrev pub Budgets : Stock → (most : ℕ) → (pairs : List Pair) → (searches missing : ℕ) → Type 0
Budgets s b ps k m =
    (is_budgeted s b ps ≡ true) × (budget_text_of s b ps ≡ frame8 budget_kind (length ps) k m ++ plan_lines ps ++ frame_of4 budget_end (length ps))

-- S5: 61010001, 520102, 6F0001; 61020100 and its plan; 61020200, also of 64 searches. One fit among five cameras: its pair is largest after one search,
-- and the second tells. Among three, one camera is left over, and half of it is rounded down. No cameras. Then question 15
abbrev pub KnownBudgets : Type 0
KnownBudgets =
    Budgets s5 0 (pair 1 2 ∷ []) 0 1 × Budgets s5 1 s5_plan 1 0 × Budgets s5 2 s5_plan 2 0 × Budgets s5 64 s5_plan 2 0 ×
    (is_budgeted s5 1 (pair 1 2 ∷ []) ≡ false) × (is_budgeted s5 0 s5_plan ≡ false) ×
    (budget_text_of s5 0 (pair 1 2 ∷ []) ≡
    (54 ∷ 49 ∷ 48 ∷ 49 ∷ 48 ∷ 48 ∷ 48 ∷ 49 ∷ 10 ∷ 53 ∷ 50 ∷ 48 ∷ 49 ∷ 48 ∷ 50 ∷ 10 ∷ 54 ∷ 70 ∷ 48 ∷ 48 ∷ 48 ∷ 49 ∷ 10 ∷ [])) ×
    Budgets (one_fit 5) 0 [] 0 2 × Budgets (one_fit 5) 1 (pair 0 1 ∷ []) 1 1 × Budgets (one_fit 5) 2 (pair 0 1 ∷ []) 2 0 ×
    Budgets (one_fit 3) 1 (pair 0 1 ∷ []) 1 0 × Budgets no_cameras 0 [] 0 0 × Budgets no_cameras 1 [] 1 0 × Budgets no_cameras 64 [] 1 0 ×
    (search_one_by_one 64 (gain s5) ≡ record { searches = 2; found = 1; none = true }) × (most_fault 64 ≡ 0) × (most_fault 65 ≡ 15) ×
    (budget_fault 0 65 s5_file 0 ≡ 1) × (or_else (most_fault 65) (stock_fault []) ≡ 15) × (or_else (most_fault 64) (stock_fault []) ≡ 4)

-- ARCS FROM A NODE TO ITSELF (document 02, L5)
-- at node 0 and, mated, at its mate; then with a wrong mate behind it, before it, and a node that is not there beside it or in it; one alone, and so an odd
-- number of arcs; behind a header that fails 5. G2, whose arcs lead to the source's mate; a wrong mate without such an arc. The check, with no certificate,
-- and with one that document 03 accepts
abbrev pub KnownSelfArcs : Type 0
KnownSelfArcs =
    (graph_fault (graph_file_of 1 (arc 0 0 ∷ arc 1 1 ∷ [])) ≡ 16) × (basic_graph_fault (graph_file_of 1 (arc 0 0 ∷ arc 1 1 ∷ [])) ≡ 0) ×
    (graph_fault (graph_file_of 1 (arc 0 0 ∷ arc 0 1 ∷ [])) ≡ 16) × (basic_graph_fault (graph_file_of 1 (arc 0 0 ∷ arc 0 1 ∷ [])) ≡ 10) ×
    (graph_fault (graph_file_of 1 (arc 0 1 ∷ arc 1 1 ∷ [])) ≡ 16) × (graph_fault (graph_file_of 1 (arc 0 0 ∷ arc 2 1 ∷ [])) ≡ 9) ×
    (graph_fault (graph_file_of 1 (arc 2 2 ∷ arc 3 3 ∷ [])) ≡ 9) × (graph_fault (graph_file_of 1 (arc 0 0 ∷ [])) ≡ 8) ×
    (graph_fault (graph_file_of 0 (arc 0 0 ∷ arc 1 1 ∷ [])) ≡ 5) × (graph_fault (graph_file_of 1 (arc 0 1 ∷ arc 0 1 ∷ [])) ≡ 0) ×
    (graph_fault (graph_file_of 2 (arc 0 2 ∷ arc 1 3 ∷ [])) ≡ 10) × (check_post (graph_file_of 1 (arc 0 0 ∷ arc 1 1 ∷ [])) [] ≡ Refused 16) ×
    (check_post (graph_file_of 1 (arc 0 0 ∷ arc 1 1 ∷ [])) (barrier_text (1 ∷ 2 ∷ [])) ≡ Refused 16) ×
    (is_barrier (graph_of 1 (arc 0 0 ∷ arc 1 1 ∷ [])) (1 ∷ 2 ∷ []) ≡ true)

-- CALLERS (document 02, L7)
abbrev pub counts : (paths barriers stocks refusals : ℕ) → Counts
counts p b s r = record { paths = p; barriers = b; stocks = s; refusals = r }

-- service's stock; the foreman's graph without a path, and one with a path, twice; a stock of a caller 4, and of one that the last byte would take for 0; a
-- check; service's budget of 65 searches; an empty file and no room, from stores
abbrev pub some_calls : List Call
some_calls =
    call 2 stock s5_file 2048 ∷ call 0 graph g1_file 2048 ∷ call 0 graph g5_file 2048 ∷ call 0 graph g5_file 2048 ∷ call 4 stock s5_file 2048 ∷
    call 256 stock s5_file 2048 ∷ check g1_file [] ∷ call 2 (budget 65) s5_file 2048 ∷ call 3 stock [] 0 ∷ []

abbrev pub after_them : Tally
after_them = record { sets = counts 2 1 0 0 ∷ counts 0 0 0 0 ∷ counts 0 0 1 1 ∷ counts 0 0 0 1 ∷ [] }

abbrev pub near_largest : (barriers : ℕ) → Tally
near_largest n = record { sets = counts 0 4294967295 7 0 ∷ counts 4294967295 n 0 5 ∷ counts 1 2 3 4 ∷ counts 0 0 0 4294967295 ∷ [] }

-- the grader's paths at their largest stay; the barriers, one below, come to it, and stay
abbrev pub KnownCallers : Type 0
KnownCallers =
    (budget_fault 4 65 [] 0 ≡ 17) × (budget_fault 3 65 [] 0 ≡ 1) × (budget_fault 3 65 [] 2048 ≡ 15) × (budget_fault 3 64 [] 2048 ≡ 4) ×
    (answer_fault 255 g1_file 2048 ≡ 17) × (stock_call_fault 4 s5_file 2047 ≡ 17) × (stock_call_fault 0 s5_file 2047 ≡ 1) × (answer_fault 3 g1_file 2048 ≡ 0) ×
    (after_calls outcome_of zeros some_calls ≡ after_them) ×
    (own_calls 2 some_calls ≡ call 2 stock s5_file 2048 ∷ call 2 (budget 65) s5_file 2048 ∷ []) × (counted_calls some_calls ≡ 6) × (total_of after_them ≡ 6) ×
    (tallied (near_largest 4294967294) 1 Path ≡ near_largest 4294967294) × (tallied (near_largest 4294967294) 1 Barrier ≡ near_largest 4294967295) ×
    (tallied (near_largest 4294967295) 1 Barrier ≡ near_largest 4294967295)
