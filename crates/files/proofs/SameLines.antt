-- Files of the same lines are read alike, whichever ends the lines have (document 02, L1).
--   lines_tell      two files of the same lines
--   ends_tell       two files written of the same lines
--   returns_same    carriage returns put before line feeds leave the lines as they are
--   too_long        a file that is too long is refused with 2
--   returns_read    a file, and the same with carriage returns put before its line feeds
use mathlib.Core.Path.{sym, ap, ◌∙◌}
use mathlib.Core.Bool.{Bool}
use mathlib.Core.List.{List}
use Prim.Native.Nat.{ℕ, ◌≤◌, ◌<◌}
use native.Mathlib.Omega.{arith}
use lib.ListN.{length}
use borrow.Author.Tests.{le-leb, lt-leb}
use Rattle.formats.specs.Limits.{file_most}
use Rattle.counting.specs.Tests.{all}
use Rattle.counting.proofs.Booleans.{by_test}
use Rattle.frames.specs.EitherEnd.{with_returns, text_of, is_inner}
use Rattle.frames.proofs.EitherEnd.{lines_kept, lines_read}
use Rattle.files.specs.CertificateFile.{is_path_file}
use Rattle.files.specs.SameLines.{SameLines, TooLong, LinesTell, EndsTell, ReturnsRead}

pub lines_tell : LinesTell
lines_tell f g s = (
  rw (s.0, s.1, s.2),
  rw s.0,
  rw (s.0, s.1, s.2),
  rw s.0,
  λ h. (rw (s.0, s.1, s.2), rw s.0),
  λ n fs. rw (s.0, s.1, s.2),
  rw s.0,
)

pub ends_tell : EndsTell
ends_tell ls ms h e p q =
    let r = lines_read ls h in
    let s = lines_read ms (ap (all (all is_inner)) (sym e) ∙ h) in
    let short = le-leb (length (text_of ls)) file_most p ∙ sym (le-leb (length (text_of ms)) file_most q) in
    lines_tell (text_of ls) (text_of ms) (r.0 ∙ e ∙ sym s.0, r.1 ∙ sym s.1, short)

pub returns_same : (z : ℕ → Bool) (f : List ℕ) → length (with_returns z f) ≤ file_most → SameLines (with_returns z f) f
returns_same z f h =
    let k = lines_kept z f in
    let p = le-leb (length (with_returns z f)) file_most h in
    (k.0, k.1, p ∙ sym (le-leb (length f) file_most (omega (arith, k.2))))

pub too_long : (f : List ℕ) → file_most < length f → TooLong f
too_long f h =
    let s = lt-leb (length f) file_most h in
    (rw s, rw s, λ g. by_test (is_path_file f) (λ t. rw (t, s)) (λ t. rw (t, s)), λ n fs. rw s)

pub returns_read : ReturnsRead
returns_read z f = (λ h. lines_tell (with_returns z f) f (returns_same z f h), too_long (with_returns z f))
