-- What an exported call returns and leaves: document 01's results as numbers, and the tally as sixteen counts (document 02, L7).
--   counts_at all at                                  four of them from a place on: paths, barriers, stocks, refusals
--   tally_of all, all_counts tally                    the tally that sixteen counts are, four a caller; and the sixteen of a tally
--   four counts                                       a caller's four in that order
--   CountsStand                                       where each count stands: caller c's four from 4 × c on, in that order
--   CountsKept                                        nothing is lost either way: sixteen counts are those of their tally, and four sets those of their counts;
--                                                     sixteen zeros are the tally of zeros
--   packed told                                       a call's result: its number in the lowest byte, its size above
--   packed_searched searched                          the budgeted call's: the searches above the size, which takes four bytes
--   said verdict                                      the check's: 1 for yes, 0 for no, otherwise the refusal
--   SaysWhich verdict, CheckTells                     1 is said of yes alone and 0 of no alone, a refusal is 2 or more; so it is of every verdict of the check
--   Unpacks told, CallsTell                           number and size can be read off a call's result, the size also with what is above it masked; so it is
--                                                     of the graph call and of the stock call
--   BackTells                                         so it is of coming back to a kept pairing (document 02, L8)
--   UnpacksSearched searched, BudgetTells             and the searches too; so it is of the budgeted call
--   Called pack Owes tally result after counts        what a call tells and leaves is owed, and the tally is as given
--   CountsFollow                                      so the sixteen counts after a call are those of the tally after it, for the next call to begin with;
--                                                     a call by 4 and above leaves them as they were; and what is told is owed
use Rattle.std.specs.Prelude.{◌≡◌, ◌↔◌, false, List, [], ◌∷◌, ◌++◌, ℕ, ◌+◌, ◌*◌, ◌/◌, ◌%◌, ◌≤◌, ◌<◌, length, get_or, replicate}
use Rattle.lanes.specs.Entry.{Told, told, answer_fault, stock_call_fault, Verdict, Refused, Yes, No, check_post, budget_fault, SearchedTold, searched}
use Rattle.lanes.specs.Tallies.{counts_of, Call, tally_after}
use Rattle.lanes.specs.CallerPromise.{HasFour, count_of, is_counted, zeros}
use Rattle.kept.specs.State.{come_back}
use Rattle.kept.specs.Block.{told_of}
use Rattle.lanes.specs.declared.Counts.{Counts}
use Rattle.lanes.specs.declared.Tally.{Tally}
use Rattle.lanes.specs.declared.Outcome.TheVariants.{Path, Barrier, Stock, Refusal}

abbrev pub counts_at : (all : List ℕ) → (at : ℕ) → Counts
counts_at cs i = record { paths = get_or cs i 0; barriers = get_or cs (i + 1) 0; stocks = get_or cs (i + 2) 0; refusals = get_or cs (i + 3) 0 }

abbrev pub tally_of : (all : List ℕ) → Tally
tally_of cs = record { sets = counts_at cs 0 ∷ counts_at cs 4 ∷ counts_at cs 8 ∷ counts_at cs 12 ∷ [] }

abbrev pub four : Counts → List ℕ
four k = k.paths ∷ k.barriers ∷ k.stocks ∷ k.refusals ∷ []

abbrev pub all_counts : Tally → List ℕ
all_counts t = four (counts_of t 0) ++ four (counts_of t 1) ++ four (counts_of t 2) ++ four (counts_of t 3)

abbrev pub CountsStand : Type 0
CountsStand =
    (cs : List ℕ) (c : ℕ) → c ≤ 3 →
    (count_of (tally_of cs) c Path ≡ get_or cs (4 * c) 0) × (count_of (tally_of cs) c Barrier ≡ get_or cs (4 * c + 1) 0) ×
    (count_of (tally_of cs) c Stock ≡ get_or cs (4 * c + 2) 0) × (count_of (tally_of cs) c Refusal ≡ get_or cs (4 * c + 3) 0)

abbrev pub CountsKept : Type 0
CountsKept =
    ((cs : List ℕ) → length cs ≡ 16 → all_counts (tally_of cs) ≡ cs) × ((t : Tally) → HasFour t → tally_of (all_counts t) ≡ t) ×
    ((cs : List ℕ) → HasFour (tally_of cs)) × (tally_of (replicate 16 0) ≡ zeros)

abbrev pub packed : Told → ℕ
packed r = 256 * r.size + r.number

abbrev pub Unpacks : Told → Type 0
Unpacks r =
    (packed r % 256 ≡ r.number) × (packed r / 256 ≡ r.size) × (r.size < 4294967296 → packed r / 256 % 4294967296 ≡ r.size)

abbrev pub CallsTell : Type 0
CallsTell =
    (caller : ℕ) (file : List ℕ) (lent size : ℕ) → Unpacks (told (answer_fault caller file lent) size) × Unpacks (told (stock_call_fault caller file lent) size)

abbrev pub BackTells : Type 0
BackTells = (block : List ℕ) (name lent : ℕ) → Unpacks (told_of block (come_back name lent))

-- 2 to the power of 32, and of 40
abbrev pub packed_searched : SearchedTold → ℕ
packed_searched r = 1099511627776 * r.searches + packed r.told

abbrev pub UnpacksSearched : SearchedTold → Type 0
UnpacksSearched r =
    (packed_searched r % 256 ≡ r.told.number) × (packed_searched r / 256 % 4294967296 ≡ r.told.size) ×
    (packed_searched r / 1099511627776 ≡ r.searches)

abbrev pub BudgetTells : Type 0
BudgetTells =
    (caller most : ℕ) (file : List ℕ) (lent size searches : ℕ) → size < 4294967296 → UnpacksSearched (searched (budget_fault caller most file lent) size searches)

abbrev pub said : Verdict → ℕ
said (Refused n) = n
said Yes = 1
said No = 0

abbrev pub SaysWhich : Verdict → Type 0
SaysWhich v =
    ((said v ≡ 1) ↔ (v ≡ Yes)) × ((said v ≡ 0) ↔ (v ≡ No)) × ((n : ℕ) → v ≡ Refused n → (said v ≡ n) × (2 ≤ n))

abbrev pub CheckTells : Type 0
CheckTells = (graph cert : List ℕ) → SaysWhich (check_post graph cert)

pub record Called {Result : Type 0} (pack : Result → ℕ) (Owes : Result → List ℕ → Type 0) (t : Tally) (result : ℕ) (after counts : List ℕ) : Type 0 where
  pub told : Result
  pub owes : Owes told after
  pub returned : result ≡ pack told
  pub counted : counts ≡ all_counts t

abbrev pub CountsFollow : Type 1
CountsFollow =
    (Result : Type 0) (pack : Result → ℕ) (Owes : Result → List ℕ → Type 0) (k : Call) (all : List ℕ) (result : ℕ) (after counts : List ℕ) → length all ≡ 16 →
    Called pack Owes (tally_after (tally_of all) k) result after counts →
    (tally_of counts ≡ tally_after (tally_of all) k) × (length counts ≡ 16) × (is_counted k ≡ false → counts ≡ all) ×
    ((r : Result) × ((result ≡ pack r) × Owes r after))
