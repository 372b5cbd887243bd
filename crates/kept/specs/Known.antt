-- Pairings kept under names, by examples (document 02, L8).
--   keeping n ps                        pairs kept under a name, in plan frames
--   plan_of told ps count               plan frames whose header and end frame tell these numbers
--   one_pair, wrong_stock               the pair of cameras 0 and 1; a stock file of two cameras with a fit of a third
--   until_kept, since_then              calls before 65 is last kept, and calls after it
--   some_calls                          both, and that call between them
--   eight_kept                          eight names kept before any stock
--   KnownKept                           what is asked of a keep, what comes back after those calls, and a ninth name
use Rattle.std.specs.Prelude.{◌≡◌, List, [], ◌∷◌, ◌++◌, ℕ, length}
use Rattle.formats.specs.Kinds.{fit_kind, plan_end, plan_kind, stock_end, stock_kind}
use Rattle.counting.specs.Pairs.{pair}
use Rattle.counting.specs.declared.Pair.{Pair}
use Rattle.frames.specs.Frames.{frame4, frame6, frame_of4}
use Rattle.files.specs.StockFile.{stock_in, plan_lines, plan_text}
use Rattle.lanes.specs.Known.{s5_file, throughout}
use Rattle.kept.specs.State.{power_on, KeptCall, bring, keep_as, come_back, forget, fault_of, answer_of}
use Rattle.kept.specs.Promise.{reached, LastKept}

abbrev pub keeping : (name : ℕ) → List Pair → KeptCall
keeping n ps = keep_as n (plan_text ps)

abbrev pub plan_of : (told : ℕ) → List Pair → (count : ℕ) → List ℕ
plan_of k ps m = frame4 plan_kind k ++ plan_lines ps ++ frame_of4 plan_end m

abbrev pub one_pair : List Pair
one_pair = pair 0 1 ∷ []

abbrev pub wrong_stock : List ℕ
wrong_stock = frame4 stock_kind 2 ++ frame6 fit_kind 0 2 ++ frame_of4 stock_end 1

-- 65 and 66 are kept; later 66 is forgotten, and a stock, a keep and forgetting 66 again are refused
abbrev pub until_kept : List KeptCall
until_kept = bring s5_file ∷ keeping 65 [] ∷ keeping 66 one_pair ∷ []

abbrev pub since_then : List KeptCall
since_then = forget 66 ∷ bring wrong_stock ∷ keep_as 65 (plan_of 1 [] 0) ∷ forget 66 ∷ come_back 65 2048 ∷ []

abbrev pub some_calls : List KeptCall
some_calls = until_kept ++ keep_as 65 (throughout (plan_text one_pair)) ∷ since_then

abbrev pub eight_kept : List KeptCall
eight_kept =
    keeping 0 [] ∷ keeping 1 [] ∷ keeping 2 [] ∷ keeping 3 [] ∷ keeping 4 [] ∷ keeping 5 [] ∷ keeping 6 [] ∷ keeping 7 [] ∷ []

-- before the first stock the empty pairing is kept, and no pair; a wrong number in header or end frame; a stock file; a line that is not ended; a header
-- alone. Of S5, whose fits are 0-1, 1-2 and 2-3: carriage returns; the larger camera first; 0-2; 1 in two pairs. A short buffer, before the name; the name.
-- Then 65 as it was last kept: 5101, 520001 and 5F0001, ended by line feeds; 66; the same stock again. Last, with eight kept, a ninth name, one of the eight,
-- a faulty plan under the ninth, and the ninth after another is forgotten
abbrev pub KnownKept : Type 0
KnownKept =
    (fault_of power_on (keeping 65 []) ≡ 0) × (fault_of power_on (keeping 65 one_pair) ≡ 9) × (fault_of power_on (keep_as 65 (plan_of 0 one_pair 1)) ≡ 7) ×
    (fault_of power_on (keep_as 65 (plan_of 1 one_pair 0)) ≡ 7) × (fault_of power_on (keep_as 65 s5_file) ≡ 4) ×
    (fault_of power_on (keep_as 65 (53 ∷ [])) ≡ 3) × (fault_of power_on (keep_as 65 (frame4 plan_kind 0)) ≡ 6) ×
    (fault_of (reached (bring s5_file ∷ [])) (keep_as 65 (throughout (plan_text one_pair))) ≡ 0) ×
    (fault_of (reached (bring s5_file ∷ [])) (keeping 65 (pair 1 0 ∷ [])) ≡ 12) × (fault_of (reached (bring s5_file ∷ [])) (keeping 65 (pair 0 2 ∷ [])) ≡ 13) ×
    (fault_of (reached (bring s5_file ∷ [])) (keeping 65 (pair 0 1 ∷ pair 1 2 ∷ [])) ≡ 14) × (fault_of power_on (come_back 65 2047) ≡ 1) ×
    (fault_of power_on (come_back 65 2048) ≡ 18) × (fault_of power_on (forget 65) ≡ 18) × LastKept 65 some_calls (throughout (plan_text one_pair)) ×
    (reached some_calls ≡ record { cameras = 4; fits = (stock_in s5_file).fits; kept = record { name = 65; pairs = one_pair } ∷ [] }) ×
    (answer_of (reached some_calls) (come_back 65 2048) ≡
    record { number = 0; text = 53 ∷ 49 ∷ 48 ∷ 49 ∷ 10 ∷ 53 ∷ 50 ∷ 48 ∷ 48 ∷ 48 ∷ 49 ∷ 10 ∷ 53 ∷ 70 ∷ 48 ∷ 48 ∷ 48 ∷ 49 ∷ 10 ∷ [] }) ×
    (answer_of (reached some_calls) (come_back 66 2048) ≡ record { number = 18; text = [] }) × ((reached (some_calls ++ bring s5_file ∷ [])).kept ≡ []) ×
    (fault_of (reached eight_kept) (keeping 8 []) ≡ 19) × (fault_of (reached eight_kept) (keeping 7 []) ≡ 0) ×
    (length (reached (eight_kept ++ keeping 7 [] ∷ [])).kept ≡ 8) × (fault_of (reached eight_kept) (keeping 8 one_pair) ≡ 9) ×
    (fault_of (reached (eight_kept ++ forget 3 ∷ [])) (keeping 8 []) ≡ 0)
