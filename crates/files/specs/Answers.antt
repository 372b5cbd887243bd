-- Answers as they are written at the front of a lent buffer.
--   over new old                              a buffer with new bytes at the front, the others as they were (document 03)
--   each_line line i xs                       a line for each value, made of its number, from i on, and the value
--   TakesEach calls fields values             a call may be made at each value's number and the value
--   MakesLines calls fields kind line         a value's line is a frame of that kind, of the two numbers that a call at the value's number and the value gives
--   body_text layout lines count              what stands behind a file's header: lines, and the end frame with their number
--   text_of layout numbers lines count        a file of a layout: the header with its numbers, and that
--   WrittenFirst text before after size       the text stands at the front and nothing else differs; its size is told
use Rattle.std.specs.Prelude.{◌≡◌, List, [], ◌∷◌, ◌++◌, ℕ, suc, ◌<◌, length, drop}
use Rattle.std.specs.Fn.{AnyResult, Shared}
use denote.Ref.{Bor}
use Rattle.formats.specs.Kinds.{kind_number}
use Rattle.frames.specs.Frames.{frame_bytes, frame_of4}
use Rattle.frames.specs.declared.layout.Layout.{Layout}

abbrev pub over : (new old : List ℕ) → List ℕ
over xs old = xs ++ drop (length xs) old

unfoldable pub each_line : {A : Type 0} → (line : ℕ → A → List ℕ) → (from : ℕ) → List A → List ℕ
each_line f i [] = []
each_line f i (x ∷ xs) = f i x ++ each_line f (suc i) xs

abbrev pub TakesEach : {F A : Type 0} → (calls : Shared F (ℕ × (Bor A × Unit {0})) (ℕ × ℕ)) → (fields : F) → (values : List A) → Type 0
TakesEach {A = A} g f xs = (i : ℕ) (x : Bor A) → i < length xs → g.pre f (i, (x, tt))

abbrev pub MakesLines : {F A : Type 0} → (calls : Shared F (ℕ × (Bor A × Unit {0})) (ℕ × ℕ)) → (fields : F) → (kind : ℕ) → (line : ℕ → A → List ℕ) → Type 0
MakesLines {A = A} g f k line = (i : ℕ) (x : Bor A) → AnyResult g f (i, (x, tt)) (λ r. frame_bytes (k ∷ r.0 ∷ r.1 ∷ []) ≡ line i x.now)

abbrev pub body_text : Layout → (lines : List ℕ) → (count : ℕ) → List ℕ
body_text y ls n = ls ++ frame_of4 (kind_number y.end) n

abbrev pub text_of : Layout → (numbers lines : List ℕ) → (count : ℕ) → List ℕ
text_of y ns ls n = frame_bytes (kind_number y.header ∷ ns) ++ ls ++ frame_of4 (kind_number y.end) n

pub record WrittenFirst (text before after : List ℕ) (size : ℕ) : Type 0 where
  pub bytes : after ≡ over text before
  pub told : size ≡ length text
