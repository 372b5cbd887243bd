-- The calls where lines end either way (document 02, L1).
--   returns_answered    carriage returns put before line feeds change no answer
--   returns_checked     nor a verdict
--   writes_plain        what is written is whole lines, each ended by a line feed alone
use mathlib.Core.Path.{◌≡◌, ap}
use mathlib.Core.Bool.{true}
use mathlib.Core.List.{List, []}
use Prim.Native.Nat.{ℕ}
use Rattle.counting.specs.Tests.{all, among}
use Rattle.formats.specs.Kinds.{refusal_kind, verdict_kind}
use Rattle.frames.specs.Frames.{lines_of, ends_whole, hex_bytes, frame4}
use Rattle.frames.specs.EitherEnd.{with_returns, is_plain_text}
use Rattle.frames.proofs.EitherEnd.{frame4_plain}
use Rattle.files.specs.GraphFile.{graph_in}
use Rattle.files.specs.SameLines.{SameLines}
use Rattle.files.proofs.SameLines.{returns_same, too_long}
use Rattle.files.proofs.AnswerEnds.{path_plain, barrier_plain, plan_plain, sheet_plain, plan_sheet_plain, budget_plain}
use Rattle.lanes.specs.Entry.{check_post, verdict_line, Verdict, Refused, Yes, No}
use Rattle.lanes.specs.Tallies.{Asked, graph, stock, budget, outcome_of, tallied}
use Rattle.lanes.specs.EitherEnd.{AnsweredAlike, ReturnsAnswered, ReturnsChecked, WritesPlain}

-- THE CALLS
answered_alike : (f g : List ℕ) → SameLines f g → AnsweredAlike f g
answered_alike f g s = (
  λ c o v r. rw (s.0, s.1, s.2) (λ x. x, λ x. x),
  λ c o v r. rw (s.0, s.1, s.2) (λ x. x, λ x. x),
  λ c b o v r. rw (s.0, s.1, s.2) (λ x. x, λ x. x),
  λ c a n t. ap (tallied t c) (outcomes_alike c a n),
)
  where
    outcomes_alike : (c : ℕ) (a : Asked) (n : ℕ) → outcome_of c a f n ≡ outcome_of c a g n
    outcomes_alike c graph n = rw (s.0, s.1, s.2)
    outcomes_alike c stock n = rw (s.0, s.1, s.2)
    outcomes_alike c (budget b) n = rw (s.0, s.1, s.2)

pub returns_answered : ReturnsAnswered
returns_answered z f = (
  λ h. answered_alike (with_returns z f) f (returns_same z f h),
  λ h c n. let t = too_long (with_returns z f) h in (rw t.0, rw t.1, λ b. rw t.1),
)

checked_alike : (f g c d : List ℕ) → SameLines f g → SameLines c d → check_post f c ≡ check_post g d
checked_alike f g c d s t = rw (s.0, s.1, s.2, t.0, t.1, t.2)

pub returns_checked : ReturnsChecked
returns_checked z w f c = (
  λ h k. checked_alike (with_returns z f) f (with_returns w c) c (returns_same z f h) (returns_same w c k),
  λ h. rw (too_long (with_returns z f) h).0,
  λ h. rw ((too_long (with_returns w c) h).2 (graph_in f)),
)

-- WHAT IS WRITTEN
line_plain : (k n : ℕ) → is_plain_text (frame4 k n) ≡ true
unfolding hex_bytes ends_whole lines_of all among
line_plain k n = frame4_plain k n []

verdict_plain : (v : Verdict) → is_plain_text (verdict_line v) ≡ true
verdict_plain (Refused n) = line_plain refusal_kind n
verdict_plain Yes = line_plain verdict_kind 1
verdict_plain No = line_plain verdict_kind 0

pub writes_plain : WritesPlain
writes_plain = (path_plain, barrier_plain, plan_sheet_plain, plan_plain, sheet_plain, budget_plain, line_plain refusal_kind, verdict_plain)
