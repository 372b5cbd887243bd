-- Lines by their places in a file (document 01, "Frames"). What ends a line is said in `line_end`, and of whole
-- files in `lines_of` (Frames).
--   line_end s             how many bytes the line end takes that stands at the front of s; 0 where none stands there
--   control_at s           how many bytes stand before the first control character of s, as both bytes of a line end are
--   line_length s          how many bytes stand before the first line end of s
--   part i e f             the bytes of f from i up to, not including, e
--   is_plain n l           the line l is n digits
--   line_after f at        where the line behind the one at a place begins
--   past_lines n f at      where the line n lines further begins
--   LineAt f at end next   the line of f that begins at `at` ends before `end`, and what follows its line end begins at `next`
use Rattle.std.specs.Prelude.{◌≡◌, Bool, ◌&&◌, List, [], ◌∷◌, ℕ, zero, suc, ◌+◌, ◌-◌, ◌<◌, ◌≤◌, eqb, ltb, length, take, drop}
use Rattle.counting.specs.Tests.{pick, all}
use Rattle.frames.specs.Frames.{is_cr_lf, is_digit}

unfoldable pub line_end : List ℕ → ℕ
line_end [] = 0
line_end (c ∷ cs) = pick (is_cr_lf c cs) 2 (pick (eqb c 10) 1 0)

unfoldable pub control_at : List ℕ → ℕ
control_at [] = 0
control_at (c ∷ cs) = pick (ltb c 32) 0 (suc (control_at cs))

unfoldable pub line_length : List ℕ → ℕ
line_length [] = 0
line_length (c ∷ cs) = pick (ltb 0 (line_end (c ∷ cs))) 0 (suc (line_length cs))

abbrev pub part : (from to : ℕ) → List ℕ → List ℕ
part i e f = take (e - i) (drop i f)

abbrev pub is_plain : (size : ℕ) → List ℕ → Bool
is_plain n l = eqb (length l) n && all is_digit l

abbrev pub line_after : (f : List ℕ) → (at : ℕ) → ℕ
line_after f at = at + line_length (drop at f) + line_end (drop (at + line_length (drop at f)) f)

unfoldable pub past_lines : (count : ℕ) → (f : List ℕ) → (at : ℕ) → ℕ
past_lines zero f at = at
past_lines (suc n) f at = past_lines n f (line_after f at)

pub record LineAt (f : List ℕ) (at end next : ℕ) : Type 0 where
  pub inside : at < length f
  pub ends : end ≡ at + line_length (drop at f)
  pub goes : next ≡ end + line_end (drop end f)
  pub low : at ≤ end
  pub past : end ≤ next
  pub on : at < next
  pub high : next ≤ length f
