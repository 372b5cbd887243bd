-- The questions of a call before its file's: 17, then 1.
--   refused_first    a refusal stands, whatever else is asked
--   call_refused     so does one by 17 or 1
--   call_passes      where neither refuses, what else is asked decides
--   call_roomy       and there is room
--   call_is          a call's refusal is 17, 1 or that of the others: what holds of the three holds of it
--   call_none        where a call is not refused, none of its questions refuses
--   call_some        where one of the others refuses, the call is refused
use mathlib.Core.Path.{◌≡◌, refl, sym, ◌∙◌}
use mathlib.Core.Bool.{false}
use Prim.Native.Nat.{ℕ, ◌≤◌}
use native.Mathlib.Omega.{arith}
use lib.Dec.{eqb, ltb, leb}
use borrow.Author.Tests.{leb-true}
use Rattle.std.specs.Prelude.{Ok, Err}
use Rattle.formats.specs.Limits.{callers, room}
use Rattle.formats.specs.Refusals.{refusal_number}
use Rattle.formats.specs.declared.refusals.Refusal.{Refusal}
use Rattle.counting.proofs.Booleans.{by_test}
use Rattle.frames.specs.Frames.{or_else}
use Rattle.frames.proofs.Questions.{or_stop, or_go, refusal_some}
use Rattle.lanes.specs.Entry.{call_fault}
use Rattle.lanes.specs.Calls.{CallAsked}

pub refused_first : {n : ℕ} (e : Refusal) → refusal_number e ≡ n → (m : ℕ) → or_else n m ≡ refusal_number e
refused_first {n} e is m = or_stop n m (λ z. refusal_some e (is ∙ z)) ∙ sym is

call_first : (c n m : ℕ) → call_fault c n m ≡ or_else (call_fault c n 0) m
call_first c n m = by_test (ltb c callers) (λ t. by_test (leb room n) (λ u. rw (t, u)) (λ u. rw (t, u))) (λ t. rw t)

pub call_refused : {c n : ℕ} {e : Refusal} → CallAsked c n (Err e) → (m : ℕ) → call_fault c n m ≡ refusal_number e
call_refused {c} {n} {e} A m = call_first c n m ∙ refused_first e A.is m

pub call_passes : {c n : ℕ} {u : Unit} → CallAsked c n (Ok u) → (m : ℕ) → call_fault c n m ≡ m
call_passes {c} {n} A m = call_first c n m ∙ or_go (call_fault c n 0) m (sym A.is)

pub call_roomy : {c n : ℕ} {u : Unit} → CallAsked c n (Ok u) → room ≤ n
call_roomy {c} {n} A =
    by_test (leb room n) (λ t. leb-true room n t)
    (λ t. by_test (ltb c callers) (λ s. let z : 0 ≡ 1 = rw (s, t) at A.is in absurd (cc)) (λ s. let z : 0 ≡ 17 = rw s at A.is in absurd (cc)))

module _ (c n m : ℕ) where
  pub call_is : (P : ℕ → Type 0) → P 17 → P 1 → P m → P (call_fault c n m)
  call_is P p q r = by_test (ltb c callers) (λ t. by_test (leb room n) (λ u. rw (t, u) r) (λ u. rw (t, u) q)) (λ t. rw t p)

  pub call_none : call_fault c n m ≡ 0 → m ≡ 0
  call_none = call_is (λ (k : ℕ). k ≡ 0 → m ≡ 0) (λ z. absurd (omega arith)) (λ z. absurd (omega arith)) (λ z. z)

  pub call_some : eqb m 0 ≡ false → eqb (call_fault c n m) 0 ≡ false
  call_some = call_is (λ (k : ℕ). eqb k 0 ≡ false) refl refl
