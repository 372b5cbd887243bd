-- Pairings kept under names of one byte, for one stock (document 02, L8): the state between calls, and each call as a function of it.
--   Named, State                      a name with its pairs; the present stock's cameras and fits, and what is kept, the last kept first
--   power_on                          before the first stock: the one without cameras, and no names
--   is_named, is_kept                 an entry has the name; some entry of the state has
--   without, pairs_under              the entries that have another name; the pairs that stand under a name
--   KeptCall                          a call: a stock brought, a plan file kept under a name, coming back with a buffer of so many bytes, forgetting
--   name_fault, place_fault           questions 18 and 19
--   fault_of s k                      the first question that the call answers no, 0 where there is none
--   KeptAnswer, answer_of s k         what a call answers: that number, and what it writes, which is nothing beside a refusal
--   changed s k, after s k            the state after an accepted call; after any call, which where it is refused is the state before it
--   after_calls s ks                  the state after calls in a row, each given what the last one left
use Rattle.std.specs.Prelude.{Bool, ◌||◌, not, List, [], ◌∷◌, ℕ, ltb, eqb, length}
use Rattle.formats.specs.Limits.{names_most}
use Rattle.counting.specs.Tests.{pick, any, keep}
use Rattle.counting.specs.declared.Pair.{Pair}
use Rattle.frames.specs.Frames.{or_else, unless}
use Rattle.files.specs.StockFile.{stock_in, stock_fault, plan_text}
use Rattle.files.specs.PlanFile.{plan_pairs, plan_fault}
use Rattle.lanes.specs.Entry.{room_fault}

-- WHAT IS KEPT
pub record Named : Type 0 where
  pub name : ℕ
  pub pairs : List Pair

pub record State : Type 0 where
  pub cameras : ℕ
  pub fits : List Pair
  pub kept : List Named

abbrev pub power_on : State
power_on = record { cameras = 0; fits = []; kept = [] }

abbrev pub is_named : (name : ℕ) → Named → Bool
is_named n x = eqb x.name n

abbrev pub is_kept : State → (name : ℕ) → Bool
is_kept s n = any (is_named n) s.kept

abbrev pub without : (name : ℕ) → List Named → List Named
without n xs = keep (λ (x : Named). not (is_named n x)) xs

unfoldable pub pairs_under : (name : ℕ) → List Named → List Pair
pairs_under n [] = []
pairs_under n (x ∷ xs) = pick (is_named n x) x.pairs (pairs_under n xs)

-- THE CALLS
pub data KeptCall : Type 0 where
  bring : (file : List ℕ) → KeptCall
  keep_as : (name : ℕ) → (file : List ℕ) → KeptCall
  come_back : (name size : ℕ) → KeptCall
  forget : (name : ℕ) → KeptCall

abbrev pub name_fault : State → (name : ℕ) → ℕ
name_fault s n = unless (is_kept s n) 18

abbrev pub place_fault : State → (name : ℕ) → ℕ
place_fault s n = unless (is_kept s n || ltb (length s.kept) names_most) 19

abbrev pub fault_of : State → KeptCall → ℕ
fault_of s (bring f) = stock_fault f
fault_of s (keep_as n f) = or_else (plan_fault s.cameras s.fits f) (place_fault s n)
fault_of s (come_back n size) = or_else (room_fault size) (name_fault s n)
fault_of s (forget n) = name_fault s n

pub record KeptAnswer : Type 0 where
  pub number : ℕ
  pub text : List ℕ

-- coming back alone writes
abbrev writes : State → KeptCall → List ℕ
writes s (bring f) = []
writes s (keep_as n f) = []
writes s (come_back n size) = plan_text (pairs_under n s.kept)
writes s (forget n) = []

abbrev pub answer_of : State → KeptCall → KeptAnswer
answer_of s k = record { number = fault_of s k; text = pick (eqb (fault_of s k) 0) (writes s k) [] }

abbrev pub changed : State → KeptCall → State
changed s (bring f) = record { cameras = (stock_in f).cameras; fits = (stock_in f).fits; kept = [] }
changed s (keep_as n f) = record { cameras = s.cameras; fits = s.fits; kept = record { name = n; pairs = plan_pairs f } ∷ without n s.kept }
changed s (come_back n size) = s
changed s (forget n) = record { cameras = s.cameras; fits = s.fits; kept = without n s.kept }

abbrev pub after : State → KeptCall → State
after s k = pick (eqb (fault_of s k) 0) (changed s k) s

unfoldable pub after_calls : State → List KeptCall → State
after_calls s [] = s
after_calls s (k ∷ ks) = after_calls (after s k) ks
