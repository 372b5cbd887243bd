-- Files whose lines end either way (document 02, L1), and what is promised of their lines.
--   returns_from before at chosen f    f, with carriage returns put in; `before` is the byte before it, `at` the place of its first byte
--   with_returns chosen f              a carriage return put before any choice of the line feeds that have none right before them
--   feed_lines f                       the lines of document 03, each ended by a line feed alone
--   EndedLine, ended, end_bytes        a line and which end it has; the bytes of an end
--   text_of ls, bytes_of ls            the file of such lines; the lines without their ends
--   is_inner c                         neither a carriage return nor a line feed
--   LinesKept                          carriage returns put in change no line, nor whether the last one is ended, and never make a file shorter
--   LinesRead                          the lines of a file are the lines it was made of, whichever end each has
--   WholeIs                            question 3 is answered yes exactly for files made of frames, each ended either way
--   FeedsAsBefore                      without carriage returns the lines are document 03's
--   is_plain_text t                    a text is whole lines of digits, each ended by a line feed alone
--   WritesDigits                       what is written of a number is digits alone, and so no byte of a line end
use Rattle.std.specs.Prelude.{◌≡◌, ◌↔◌, Bool, true, false, ◌&&◌, not, List, [], ◌∷◌, ◌++◌, ℕ, suc, ◌≤◌, eqb, length}
use Rattle.counting.specs.Tests.{pick, all, among}
use Rattle.frames.specs.Frames.{is_digit, with_byte, lines_of, ends_whole, is_frame, is_whole_file, hex_bytes}

-- CARRIAGE RETURNS PUT IN before the line feeds at the places chosen
unfoldable pub returns_from : (before at : ℕ) → (chosen : ℕ → Bool) → List ℕ → List ℕ
returns_from b i z [] = []
returns_from b i z (c ∷ cs) =
    pick (eqb c 10 && not (eqb b 13) && z i) (13 ∷ c ∷ returns_from c (suc i) z cs) (c ∷ returns_from c (suc i) z cs)

abbrev pub with_returns : (chosen : ℕ → Bool) → List ℕ → List ℕ
with_returns z f = returns_from 0 0 z f

abbrev pub LinesKept : Type 0
LinesKept =
    (chosen : ℕ → Bool) (f : List ℕ) →
    (lines_of (with_returns chosen f) ≡ lines_of f) × (ends_whole (with_returns chosen f) ≡ ends_whole f) ×
    (length f ≤ length (with_returns chosen f))

-- LINES WITH A CHOICE OF END for each
pub record EndedLine : Type 0 where
  pub bytes : List ℕ
  pub cr_lf : Bool

abbrev pub ended : List ℕ → Bool → EndedLine
ended l z = record { bytes = l; cr_lf = z }

abbrev pub end_bytes : Bool → List ℕ
end_bytes z = pick z (13 ∷ 10 ∷ []) (10 ∷ [])

unfoldable pub text_of : List EndedLine → List ℕ
text_of [] = []
text_of (l ∷ ls) = l.bytes ++ (end_bytes l.cr_lf ++ text_of ls)

unfoldable pub bytes_of : List EndedLine → List (List ℕ)
bytes_of [] = []
bytes_of (l ∷ ls) = l.bytes ∷ bytes_of ls

abbrev pub is_inner : ℕ → Bool
is_inner c = not (eqb c 10) && not (eqb c 13)

abbrev pub LinesRead : Type 0
LinesRead = (ls : List EndedLine) → all (all is_inner) (bytes_of ls) ≡ true → (lines_of (text_of ls) ≡ bytes_of ls) × (ends_whole (text_of ls) ≡ true)

abbrev pub WholeIs : Type 0
WholeIs = (f : List ℕ) → (is_whole_file f ≡ true) ↔ ((ls : List EndedLine) × ((f ≡ text_of ls) × (all is_frame (bytes_of ls) ≡ true)))

-- THE LINES OF DOCUMENT 03
unfoldable pub feed_lines : List ℕ → List (List ℕ)
feed_lines [] = []
feed_lines (c ∷ cs) = pick (eqb c 10) ([] ∷ feed_lines cs) (with_byte c (feed_lines cs))

abbrev pub FeedsAsBefore : Type 0
FeedsAsBefore = (f : List ℕ) → among 13 f ≡ false → lines_of f ≡ feed_lines f

-- A TEXT AS IT IS WRITTEN
abbrev pub is_plain_text : (text : List ℕ) → Bool
is_plain_text t = is_whole_file t && not (among 13 t)

abbrev pub WritesDigits : Type 0
WritesDigits = (n x : ℕ) → all is_digit (hex_bytes n x) ≡ true
