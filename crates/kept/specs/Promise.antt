-- What is promised of kept pairings over any calls in a row from power-on, each given what the last one left (document 02, L8).
--   reached ks           the state after calls from power-on
--   touches n k          an accepted call of this kind decides what stands under the name: a stock brought, or the name kept anew or forgotten
--   is_quiet n s ks       among calls from a state on no accepted one does
--   LastKept n ks f      the file of the last accepted keeping under the name, since which no accepted call forgot it or brought a stock
--   ComesBack            coming back with a name answers the pairs last kept under it so, in plan frames, and 18 where there are none such
--   Places               never more than eight names, and none twice
--   NineteenIs           a keep is refused with 19 exactly if its file is accepted, the name is new and eight are kept
--   MakesRoom            forgetting a name that is kept makes room for any other
--   KeptPairings         what is kept is a pairing of the present stock's fits, in a plan's order; its frames fit into the buffer that question 1 asks for
--   StockAnew            a stock brought, also the same again, is the present one, and no name is kept
--   RefusalsLeave        a refused call leaves the state, and writes nothing
--   KeepAsks             the questions of a keep by their numbers: 13 asks whether each pair is a fit of the present stock
--   KeptAgain            what comes back can be handed in again, under any name that 19 lets pass, and is then what stands there
--   PlansKept            every plan of a stock that was brought can be kept
--   ReturnsKept          carriage returns put before line feeds change nothing that a plan file or a stock file comes to, but that a file they make too long
--                        gets 2
--   AnyCall, Memory, memory_after, after_any, counted_ones, kept_ones     these calls among those that count for a caller, over the memory of both
--   Apart                these calls leave the tally, and those the state, whichever come between
--   BlocksFollow         the block that calls in a row leave stands for the state that they lead to; a block of zeros for the one at power-on
--   BlocksTell           what a call on such a block returns is the first question answered no; where there is one, no byte of the block changes; and the
--                        block that it leaves is such a one again
--   BlocksReturn         ComesBack in numbers and bytes: what coming back on such a block tells, and leaves in the buffer; so it is a call that leaves the
--                        block
use Rattle.std.specs.Prelude.{◌≡◌, ◌↔◌, ◌≢◌, Bool, true, false, ◌&&◌, not, List, [], ◌∷◌, ◌++◌, map, ℕ, ◌+◌, ◌*◌, ◌≤◌, ◌<◌, eqb, length, drop, replicate}
use Rattle.formats.specs.Limits.{file_most, room}
use Rattle.counting.specs.Tests.{all, none_twice}
use Rattle.counting.specs.Lists.{In}
use Rattle.counting.specs.Pairs.{pair_named}
use Rattle.counting.specs.declared.Pair.{Pair}
use Rattle.frames.specs.Frames.{or_else, unless}
use Rattle.frames.specs.Questions.{first_no}
use Rattle.frames.specs.EitherEnd.{with_returns}
use Rattle.matching.specs.Stock.{has_pair, none_shared, is_pairing, pairs_rise, is_plan}
use Rattle.files.specs.StockFile.{stock_in, plan_text}
use Rattle.files.specs.PlanFile.{plan_pairs, plan_shape, plan_fault}
use Rattle.lanes.specs.Tallies.{Call, outcome_of, tally_after}
use Rattle.lanes.specs.Tallies as tallies
use Rattle.lanes.specs.declared.Tally.{Tally}
use Rattle.lanes.specs.Entry.{Told}
use Rattle.kept.specs.State.{Named, State, power_on, is_kept, KeptCall, bring, keep_as, come_back, forget, place_fault, fault_of, answer_of, after, after_calls}
use Rattle.kept.specs.Block.{block_size, state_of, Owes, Returns, Led}

abbrev pub reached : List KeptCall → State
reached ks = after_calls power_on ks

-- COMING BACK
abbrev pub touches : (name : ℕ) → KeptCall → Bool
touches n (bring f) = true
touches n (keep_as m f) = eqb m n
touches n (come_back m size) = false
touches n (forget m) = eqb m n

unfoldable pub is_quiet : (name : ℕ) → State → List KeptCall → Bool
is_quiet n s [] = true
is_quiet n s (k ∷ ks) = not (touches n k && eqb (fault_of s k) 0) && is_quiet n (after s k) ks

pub record LastKept (n : ℕ) (ks : List KeptCall) (f : List ℕ) : Type 0 where
  pub before : List KeptCall
  pub later : List KeptCall
  pub calls : ks ≡ before ++ keep_as n f ∷ later
  pub accepted : fault_of (reached before) (keep_as n f) ≡ 0
  pub quiet : is_quiet n (after (reached before) (keep_as n f)) later ≡ true

abbrev pub ComesBack : Type 0
ComesBack =
    (ks : List KeptCall) (n size : ℕ) → room ≤ size →
    ((f : List ℕ) → LastKept n ks f → answer_of (reached ks) (come_back n size) ≡ record { number = 0; text = plan_text (plan_pairs f) }) ×
    (((f : List ℕ) → LastKept n ks f → ⊥) → answer_of (reached ks) (come_back n size) ≡ record { number = 18; text = [] })

-- PLACES
abbrev pub Places : Type 0
Places =
    (ks : List KeptCall) →
    (length (reached ks).kept ≤ 8) × (none_twice (map (λ (x : Named). x.name) (reached ks).kept) ≡ true)

abbrev pub NineteenIs : Type 0
NineteenIs =
    (ks : List KeptCall) (n : ℕ) (f : List ℕ) →
    (fault_of (reached ks) (keep_as n f) ≡ 19) ↔
    ((plan_fault (reached ks).cameras (reached ks).fits f ≡ 0) × (is_kept (reached ks) n ≡ false) × (length (reached ks).kept ≡ 8))

abbrev pub MakesRoom : Type 0
MakesRoom =
    (ks : List KeptCall) (m n : ℕ) (f : List ℕ) → fault_of (reached ks) (forget m) ≡ 0 →
    (is_kept (after (reached ks) (forget m)) m ≡ false) ×
    (fault_of (after (reached ks) (forget m)) (keep_as n f) ≡ plan_fault (reached ks).cameras (reached ks).fits f)

-- WHAT IS KEPT
abbrev pub KeptPairings : Type 0
KeptPairings =
    (ks : List KeptCall) (x : Named) → In x (reached ks).kept →
    (is_pairing (reached ks).fits x.pairs ≡ true) × (pairs_rise x.pairs ≡ true) ×
    (all (pair_named (reached ks).cameras) x.pairs ≡ true) × (length (plan_text x.pairs) ≤ 453)

abbrev pub StockAnew : Type 0
StockAnew =
    (s : State) (f : List ℕ) → fault_of s (bring f) ≡ 0 →
    ((after s (bring f)).cameras ≡ (stock_in f).cameras) × ((after s (bring f)).fits ≡ (stock_in f).fits) × ((after s (bring f)).kept ≡ [])

abbrev pub RefusalsLeave : Type 0
RefusalsLeave = (s : State) (k : KeptCall) → fault_of s k ≢ 0 → (after s k ≡ s) × ((answer_of s k).text ≡ [])

abbrev pub KeepAsks : Type 0
KeepAsks =
    (ks : List KeptCall) (n : ℕ) (f : List ℕ) →
    fault_of (reached ks) (keep_as n f) ≡
    or_else (first_no (plan_shape f))
    (or_else (unless (all (pair_named (reached ks).cameras) (plan_pairs f)) 9)
    (or_else (unless (pairs_rise (plan_pairs f)) 12)
    (or_else (unless (all (has_pair (reached ks).fits) (plan_pairs f)) 13) (or_else (unless (none_shared (plan_pairs f)) 14) (place_fault (reached ks) n)))))

abbrev pub KeptAgain : Type 0
KeptAgain =
    (ks : List KeptCall) (n m size : ℕ) → fault_of (reached ks) (come_back n size) ≡ 0 →
    (fault_of (reached ks) (keep_as m (answer_of (reached ks) (come_back n size)).text) ≡ place_fault (reached ks) m) ×
    (plan_text (plan_pairs (answer_of (reached ks) (come_back n size)).text) ≡ (answer_of (reached ks) (come_back n size)).text)

abbrev pub PlansKept : Type 0
PlansKept =
    (s : State) (f : List ℕ) (ps : List Pair) (n : ℕ) → fault_of s (bring f) ≡ 0 → is_plan (stock_in f) ps ≡ true →
    (fault_of (after s (bring f)) (keep_as n (plan_text ps)) ≡ 0) × (plan_pairs (plan_text ps) ≡ ps)

abbrev pub ReturnsKept : Type 0
ReturnsKept =
    (chosen : ℕ → Bool) (s : State) (n : ℕ) (f : List ℕ) →
    (length (with_returns chosen f) ≤ file_most →
    (fault_of s (keep_as n (with_returns chosen f)) ≡ fault_of s (keep_as n f)) × (after s (keep_as n (with_returns chosen f)) ≡ after s (keep_as n f)) ×
    (fault_of s (bring (with_returns chosen f)) ≡ fault_of s (bring f)) × (after s (bring (with_returns chosen f)) ≡ after s (bring f))) ×
    (file_most < length (with_returns chosen f) → (fault_of s (keep_as n (with_returns chosen f)) ≡ 2) × (fault_of s (bring (with_returns chosen f)) ≡ 2))

-- AMONG OTHER CALLS
pub data AnyCall : Type 0 where
  counted : Call → AnyCall
  kept : KeptCall → AnyCall

pub record Memory : Type 0 where
  pub tally : Tally
  pub state : State

abbrev pub memory_after : Memory → AnyCall → Memory
memory_after m (counted k) = record { tally = tally_after m.tally k; state = m.state }
memory_after m (kept k) = record { tally = m.tally; state = after m.state k }

unfoldable pub after_any : Memory → List AnyCall → Memory
after_any m [] = m
after_any m (k ∷ ks) = after_any (memory_after m k) ks

unfoldable pub counted_ones : List AnyCall → List Call
counted_ones [] = []
counted_ones (counted k ∷ ks) = k ∷ counted_ones ks
counted_ones (kept k ∷ ks) = counted_ones ks

unfoldable pub kept_ones : List AnyCall → List KeptCall
kept_ones [] = []
kept_ones (counted k ∷ ks) = kept_ones ks
kept_ones (kept k ∷ ks) = k ∷ kept_ones ks

abbrev pub Apart : Type 0
Apart =
    (m : Memory) (ks : List AnyCall) →
    ((after_any m ks).tally ≡ tallies.after_calls outcome_of m.tally (counted_ones ks)) × ((after_any m ks).state ≡ after_calls m.state (kept_ones ks))

-- BLOCKS
abbrev pub BlocksFollow : Type 0
BlocksFollow =
    (state_of (replicate block_size 0) ≡ power_on) ×
    ((b c : List ℕ) (ks : List KeptCall) → Led b ks c → state_of c ≡ after_calls (state_of b) ks) ×
    ((c : List ℕ) (ks : List KeptCall) → Led (replicate block_size 0) ks c → state_of c ≡ reached ks)

abbrev pub BlocksTell : Type 0
BlocksTell =
    (b c : List ℕ) (ks : List KeptCall) (k : KeptCall) (n : ℕ) → Led (replicate block_size 0) ks b → Owes b k n c →
    (n ≡ fault_of (reached ks) k) × (n ≢ 0 → c ≡ b) × Led (replicate block_size 0) (ks ++ k ∷ []) c

abbrev pub BlocksReturn : Type 0
BlocksReturn =
    (b o v : List ℕ) (ks : List KeptCall) (n : ℕ) (r : Told) → Led (replicate block_size 0) ks b → Returns b (come_back n (length o)) o r v →
    Owes b (come_back n (length o)) r.number b × (length o < room → (r.number ≡ 1) × (r.size ≡ 0) × (v ≡ o)) ×
    (room ≤ length o →
    ((f : List ℕ) → LastKept n ks f →
    (r.number ≡ 0) × (r.size ≡ 12 + 7 * length (plan_pairs f)) × (v ≡ plan_text (plan_pairs f) ++ drop (12 + 7 * length (plan_pairs f)) o)) ×
    (((f : List ℕ) → LastKept n ks f → ⊥) → (r.number ≡ 18) × (r.size ≡ 0) × (v ≡ o)))
