-- What is promised of the stock call (document 01, "Stocks"; document 02, L6), read off the bytes that it left: a plan, directly followed by the standing
-- sheet. SheetsTell is document 03's, of the sheet half, without its premise that a file's elements are bytes (BytePromise); the others are added.
--   AnsweredWith f o r v     the stock call answers f in the buffer o for some caller, tells r and leaves v
--   sheet_place fs            where the sheet half begins, by the fits alone
--   plan_half f v, sheet_half f r v, pairs_read t     the two halves of an answer; the pairs that a plan's lines say
--   camera_line u             where camera u's line begins in a sheet
--   SheetBegins       that place is the length of every plan of a stock, whichever pairs are lit
--   HalvesFill        the answer is the two halves and no more; its size, by cameras and fits alone, is at most 1,354 bytes, within the room
--   PlansTell         demand 2: the pairs that the plan half's lines say are a plan, and the half is that plan as it is written
--   HalvesAgree       demand 3: the plan half's number, and how many lines it has, is the sheet half's, and tells where that begins
--   SomeAnswer        the call can answer: something is owed of every caller, file and buffer
--   SheetsTell        demand 3: sheets are alike exactly when cameras, greatest number and every mark are; each is the sheet defined
--   SheetsByFits      demand 3: the same cameras and fits get the same sheet at the same place, whichever pairs are lit, whoever called and
--                     whatever stood in the buffers
--   SheetNumber       demand 3: the number in a sheet's bytes is the length of some pairing of the fits, and none is longer
--   SheetMarks        demand 3: camera u's line in a sheet's bytes begins at camera_line u, and has u and its mark
--   SameIsolated      two sheets of the same bytes are of stocks in which the same cameras have no fit
use Rattle.std.specs.Prelude.{◌≡◌, ◌↔◌, true, List, ◌++◌, ℕ, ◌+◌, ◌*◌, ◌≤◌, ◌<◌, length, take, drop}
use Rattle.formats.specs.Kinds.{pair_kind}
use Rattle.formats.specs.Limits.{room}
use Rattle.counting.specs.declared.Pair.{Pair}
use Rattle.frames.specs.Frames.{hex_at, body_lines, pairs_in}
use Rattle.matching.specs.Promise.{HasFit}
use Rattle.matching.specs.Stock.{Stock, is_pairing, greatest, mark_of, is_plan}
use Rattle.files.specs.StockFile.{stock_in, alike, plan_text}
use Rattle.files.specs.Answers.{over}
use Rattle.lanes.specs.Entry.{sheet_of_file, stock_call_fault, StockOwes, Told}

abbrev pub AnsweredWith : (file buffer : List ℕ) → (answer : Told) → (after : List ℕ) → Type 0
AnsweredWith f o r v = (c : ℕ) × ((stock_call_fault c f (length o) ≡ 0) × StockOwes c f o r v)

-- where the sheet half begins: behind a plan's header of 5 bytes, a line of 7 for each pair, and its end of 7
abbrev pub sheet_place : (fits : List Pair) → ℕ
sheet_place fs = 12 + 7 * greatest fs

abbrev pub plan_half : (file after : List ℕ) → List ℕ
plan_half f v = take (sheet_place (stock_in f).fits) v

abbrev pub sheet_half : (file : List ℕ) → (answer : Told) → (after : List ℕ) → List ℕ
sheet_half f r v = drop (sheet_place (stock_in f).fits) (take r.size v)

-- THE HALVES
abbrev pub SheetBegins : Type 0
SheetBegins = (s : Stock) (ps : List Pair) → is_plan s ps ≡ true → length (plan_text ps) ≡ sheet_place s.fits

abbrev pub HalvesFill : Type 0
HalvesFill =
    (f o v : List ℕ) (r : Told) → AnsweredWith f o r v →
    (r.size ≡ sheet_place (stock_in f).fits + (12 + 7 * (stock_in f).cameras)) × (r.size ≤ 1354) × (1354 ≤ room) ×
    (v ≡ over (plan_half f v ++ sheet_half f r v) o)

-- the pairs that a plan's lines say
abbrev pub pairs_read : (plan : List ℕ) → List Pair
pairs_read t = pairs_in pair_kind (body_lines t)

abbrev pub PlansTell : Type 0
PlansTell =
    (f o v : List ℕ) (r : Told) → AnsweredWith f o r v →
    (is_plan (stock_in f) (pairs_read (plan_half f v)) ≡ true) × (plan_text (pairs_read (plan_half f v)) ≡ plan_half f v)

abbrev pub HalvesAgree : Type 0
HalvesAgree =
    (f o v : List ℕ) (r : Told) → AnsweredWith f o r v →
    (hex_at 2 2 v ≡ hex_at 2 2 (sheet_half f r v)) × (length (body_lines (plan_half f v)) ≡ hex_at 2 2 (sheet_half f r v)) ×
    (sheet_place (stock_in f).fits ≡ 12 + 7 * hex_at 2 2 v)

abbrev pub SomeAnswer : Type 0
SomeAnswer = (c : ℕ) (f o : List ℕ) → (r : Told) × ((v : List ℕ) × StockOwes c f o r v)

-- DEMAND 3, of the sheet half
abbrev pub SheetsTell : Type 0
SheetsTell =
    (f g o p v w : List ℕ) (q r : Told) → AnsweredWith f o q v → AnsweredWith g p r w →
    ((sheet_half f q v ≡ sheet_half g r w) ↔ (alike (stock_in f) (stock_in g) ≡ true)) × (sheet_half f q v ≡ sheet_of_file f)

abbrev pub SheetsByFits : Type 0
SheetsByFits =
    (f g o p v w : List ℕ) (q r : Told) → AnsweredWith f o q v → AnsweredWith g p r w → (stock_in f).cameras ≡ (stock_in g).cameras →
    (stock_in f).fits ≡ (stock_in g).fits →
    (sheet_place (stock_in f).fits ≡ sheet_place (stock_in g).fits) × (q ≡ r) × (sheet_half f q v ≡ sheet_half g r w)

abbrev pub SheetNumber : Type 0
SheetNumber =
    (f o v : List ℕ) (r : Told) → AnsweredWith f o r v →
    ((qs : List Pair) × ((is_pairing (stock_in f).fits qs ≡ true) × (length qs ≡ hex_at 2 2 (sheet_half f r v)))) ×
    ((ps : List Pair) → is_pairing (stock_in f).fits ps ≡ true → length ps ≤ hex_at 2 2 (sheet_half f r v))

-- where camera u's line begins in the sheet half: behind a header of 5 bytes and u lines of 7
abbrev pub camera_line : (camera : ℕ) → ℕ
camera_line u = 5 + 7 * u

abbrev pub SheetMarks : Type 0
SheetMarks =
    (f o v : List ℕ) (r : Told) (u : ℕ) → AnsweredWith f o r v → u < (stock_in f).cameras →
    (hex_at (camera_line u + 2) 2 (sheet_half f r v) ≡ u) ×
    (hex_at (camera_line u + 4) 2 (sheet_half f r v) ≡ mark_of (stock_in f).fits u)

abbrev pub SameIsolated : Type 0
SameIsolated =
    (f g o p v w : List ℕ) (q r : Told) (u : ℕ) → AnsweredWith f o q v → AnsweredWith g p r w → sheet_half f q v ≡ sheet_half g r w →
    u < (stock_in f).cameras → HasFit (stock_in f).fits u ↔ HasFit (stock_in g).fits u
