-- What the library's calls return tells what they told: the first question answered no is never question 1 in a check, so a refusal is neither 0
-- nor 1; and it is a number below 256, so it can be told from the size above it.
--   none_or_high n               n is 0, or 2 or more
--   check_high                   so is what the check's questions come to
--   refused_high, says_which     so a refusal is 2 or more, and what is said of such a verdict tells it
--   check_tells                  what the check says tells its verdict
--   unpacks, calls_tell          number and size can be read off a call's result
--   back_tells                   and off what coming back to a kept pairing returns
--   budget_tells                 and the searches off the budgeted call's
use mathlib.Core.Path.{◌≡◌, refl, ap}
use mathlib.Core.Bool.{Bool, true, ◌||◌, or-true}
use mathlib.Core.List.{List}
use Prim.Native.Nat.{ℕ, ◌+◌, ◌≤◌, ◌<◌}
use native.Mathlib.Omega.{arith}
use lib.Dec.{leb, eqb}
use lib.ListN.{length}
use borrow.Author.Tests.{le-leb, leb-true}
use Rattle.formats.specs.Limits.{room, searches_most}
use Rattle.counting.proofs.Booleans.{by_test}
use Rattle.frames.specs.Frames.{or_else}
use Rattle.files.specs.GraphFile.{graph_in, graph_fault}
use Rattle.files.proofs.Asked.{graph_refusal, stock_refusal}
use Rattle.files.specs.StockFile.{stock_fault}
use Rattle.files.specs.CertificateFile.{cert_fault, cert_holds}
use Rattle.lanes.specs.Entry.{told, call_fault, answer_fault, stock_call_fault, Verdict, Refused, Yes, No, check_fault, check_post, most_fault, budget_fault, searched}
use Rattle.lanes.proofs.CallFaults.{call_is}
use Rattle.kept.specs.State.{is_kept, come_back, fault_of}
use Rattle.kept.specs.Block.{state_of, text_of}
use Rattle.lanes_c.specs.Exported.{Unpacks, CallsTell, BackTells, UnpacksSearched, BudgetTells, said, SaysWhich, CheckTells}

abbrev none_or_high : ℕ → Bool
none_or_high n = eqb n 0 || leb 2 n

check_high : (f c : List ℕ) → none_or_high (check_fault f c) ≡ true
check_high f c =
    by_test (eqb (graph_fault f) 0)
    (λ t. rw t (by_test (eqb (cert_fault (graph_in f) c) 0) (λ u. rw u) (λ u. rw (u, le-leb 2 (40 + cert_fault (graph_in f) c) (omega arith)) (or-true (eqb (40 + cert_fault (graph_in f) c) 0)))))
    (λ t. rw t (graph_refusal f none_or_high refl refl))

refused_high : (f c : List ℕ) (n : ℕ) → check_post f c ≡ Refused n → 2 ≤ n
refused_high f c n e =
    by_test (eqb (check_fault f c) 0)
    (λ t.
    by_test (cert_holds (graph_in f) c)
    (λ h. let z : Yes ≡ Refused n = rw (t, h) at e in let o : ◌≡◌ {A = ℕ} 0 1 = cc in omega arith)
    (λ h. let z : No ≡ Refused n = rw (t, h) at e in let o : ◌≡◌ {A = ℕ} 0 1 = cc in omega arith))
    (λ t. let same : check_fault f c ≡ n = ap said (rw t at e) in let high : leb 2 (check_fault f c) ≡ true = rw t at (check_high f c) in omega (arith, leb-true 2 (check_fault f c) high))

says_which : (v : Verdict) → ((n : ℕ) → v ≡ Refused n → 2 ≤ n) → SaysWhich v
says_which (Refused n) h =
    let high = h n refl in
    ((λ e. absurd (omega (arith, high)), λ e. ap said e), (λ e. absurd (omega (arith, high)), λ e. ap said e), λ m e. (ap said e, h m e))
says_which Yes h = ((λ _. refl, λ _. refl), (λ e. absurd (omega arith), λ e. ap said e), λ m e. (ap said e, h m e))
says_which No h = ((λ e. absurd (omega arith), λ e. ap said e), (λ _. refl, λ _. refl), λ m e. (ap said e, h m e))

pub check_tells : CheckTells
check_tells f c = says_which (check_post f c) (refused_high f c)

unpacks : (n k : ℕ) → leb n 255 ≡ true → Unpacks (told n k)
unpacks n k h =
    let l = leb-true n 255 h in by_test (eqb n 0) (λ t. rw t (omega (arith, l), omega (arith, l), λ small. omega (arith, l))) (λ t. rw t (omega (arith, l), omega (arith, l), λ small. omega (arith, l)))

call_low : (c n m : ℕ) → leb m 255 ≡ true → leb (call_fault c n m) 255 ≡ true
call_low c n m = call_is c n m (λ (k : ℕ). leb k 255 ≡ true) refl refl

pub calls_tell : CallsTell
calls_tell c f n k = (
  unpacks (answer_fault c f n) k (call_low c n (graph_fault f) (graph_refusal f (λ (m : ℕ). leb m 255) refl refl)),
  unpacks (stock_call_fault c f n) k (call_low c n (stock_fault f) (stock_refusal f (λ (m : ℕ). leb m 255) refl refl)),
)

pub back_tells : BackTells
back_tells b n k =
    unpacks (fault_of (state_of b) (come_back n k)) (length (text_of b (come_back n k)))
    (by_test (leb room k) (λ t. by_test (is_kept (state_of b) n) (λ u. rw (t, u)) (λ u. rw (t, u))) (λ t. rw t))

unpacks_searched : (n k j : ℕ) → leb n 255 ≡ true → k < 4294967296 → UnpacksSearched (searched n k j)
unpacks_searched n k j h small =
    let l = leb-true n 255 h in
    by_test (eqb n 0) (λ t. rw t (omega (arith, l), omega (arith, l), omega (arith, l))) (λ t. rw t (omega (arith, l), omega (arith, l), omega (arith, l)))

-- question 15, and then the stock's
after_most : (b : ℕ) (f : List ℕ) → leb (or_else (most_fault b) (stock_fault f)) 255 ≡ true
after_most b f = by_test (leb b searches_most) (λ t. rw t (stock_refusal f (λ (n : ℕ). leb n 255) refl refl)) (λ t. rw t)

pub budget_tells : BudgetTells
budget_tells c b f n k j = unpacks_searched (budget_fault c b f n) k j (call_low c n (or_else (most_fault b) (stock_fault f)) (after_most b f))
