-- Body frames stored in slices that the caller lends. A run is the lines of one kind that stand together; the end frame, being of
-- another kind, ends the last one.
--   has_kind kind line                 the line's first two digits are that kind
--   run_of kind lines, past_run        the lines at the front that are of a kind, and those past them
--   run_at kind g at                   the run of a kind that begins at a place of g
--   is_long size line                  the line is digits, at least so many
--   Storable g at                      what storing asks of the lines from a place on: digits, as many as a body frame has at least
--   RunPassed kind g at count next     the run that begins at `at` has `count` lines, and `next` is where it stops
--   StoredFirst xs before after        xs stand at the front of a slice, and nothing else differs
--   Gives gives of                     a conversion gives what `of` does
--   Stored of kind g ..                a run's frames are stored so, each as `of` makes it of the frame's two numbers
use Rattle.std.specs.Prelude.{◌≡◌, Bool, true, ◌&&◌, List, [], ◌∷◌, map, ℕ, ◌≤◌, eqb, leb, length, drop}
use Rattle.std.proofs.lemmas.List.Edits.{sets}
use Rattle.counting.specs.Tests.{pick, all}
use Rattle.counting.specs.declared.Pair.{Pair}
use Rattle.frames.specs.Frames.{lines_of, is_digit, kind_of, pairs_in}
use Rattle.frames.specs.Lines.{past_lines}

abbrev pub has_kind : (kind : ℕ) → List ℕ → Bool
has_kind k l = eqb (kind_of l) k

unfoldable pub run_of : (kind : ℕ) → List (List ℕ) → List (List ℕ)
run_of k [] = []
run_of k (l ∷ ls) = pick (has_kind k l) (l ∷ run_of k ls) []

unfoldable pub past_run : (kind : ℕ) → List (List ℕ) → List (List ℕ)
past_run k [] = []
past_run k (l ∷ ls) = pick (has_kind k l) (past_run k ls) (l ∷ ls)

abbrev pub run_at : (kind : ℕ) → (g : List ℕ) → (at : ℕ) → List (List ℕ)
run_at k g at = run_of k (lines_of (drop at g))

abbrev pub is_long : (size : ℕ) → List ℕ → Bool
is_long n l = leb n (length l) && all is_digit l

pub record Storable (g : List ℕ) (at : ℕ) : Type 0 where
  pub inside : at ≤ length g
  pub long : all (is_long 6) (lines_of (drop at g)) ≡ true

pub record RunPassed (kind : ℕ) (g : List ℕ) (at count next : ℕ) : Type 0 where
  pub counts : count ≡ length (run_at kind g at)
  pub place : next ≡ past_lines count g at
  pub rest : lines_of (drop next g) ≡ past_run kind (lines_of (drop at g))
  pub low : at ≤ next
  pub high : next ≤ length g

pub record StoredFirst {T : Type 0} (xs before after : List T) : Type 0 where
  pub room : length xs ≤ length before
  pub entries_are : after ≡ sets before 0 xs

abbrev pub Gives : {T : Type 0} → (gives : Pair → T → Type 0) → (of : Pair → T) → Type 0
Gives {T} gives of = (x : Pair) (y : T) → gives x y → y ≡ of x

pub record Stored {T : Type 0} (of : Pair → T) (kind : ℕ) (g : List ℕ) (at : ℕ) (before after : List T) (count next : ℕ) : Type 0 where
  pub passed : RunPassed kind g at count next
  pub entries : StoredFirst (map of (pairs_in kind (run_at kind g at))) before after
