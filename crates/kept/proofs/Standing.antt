-- What stands under a name, over calls in a row.
--   SameUnder n s t    the same stands under the name in both states
--   calls_joined       calls, and then others
--   quiet_same         calls of which none decides it leave what stands under a name
--   keeping_stands     an accepted keeping puts its pairs under its name
--   kept_since         a name that is kept after calls and then others has a last keeping, or it was kept before the others and none of them decided
use mathlib.Core.Path.{◌≡◌, refl, sym, ap, ◌∙◌}
use mathlib.Core.Logic.{◌⊎◌, inl, inr, ⊎_elim}
use mathlib.Core.Bool.{true, false, ◌&&◌, not, and-true}
use mathlib.Core.List.{List, [], ◌∷◌, ◌++◌, append-nil, append_assoc}
use Prim.Native.Nat.{ℕ}
use lib.Dec.{eqb}
use borrow.Author.Tests.{eqb-true, eqb-false, eq-eqb, not-true}
use Rattle.counting.specs.Tests.{any}
use Rattle.counting.proofs.Booleans.{and_two, by_test, true_false}
use Rattle.files.specs.PlanFile.{plan_pairs}
use Rattle.kept.specs.State.{State, power_on, is_kept, pairs_under, KeptCall, bring, keep_as, come_back, forget, fault_of, changed, after, after_calls}
use Rattle.kept.specs.Promise.{reached, touches, is_quiet, LastKept}
use Rattle.kept.proofs.ByName.{without_gone, without_other}

abbrev pub SameUnder : (name : ℕ) → (before then : State) → Type 0
SameUnder n s t = (is_kept t n ≡ is_kept s n) × (pairs_under n t.kept ≡ pairs_under n s.kept)

pub calls_joined : (s : State) (ks ls : List KeptCall) → after_calls s (ks ++ ls) ≡ after_calls (after_calls s ks) ls
unfolding after_calls
calls_joined s [] ls = refl
calls_joined s (k ∷ ks) ls = calls_joined (after s k) ks ls

-- CALLS THAT LEAVE A NAME
untouched_same : (n : ℕ) (s : State) (k : KeptCall) → touches n k ≡ false → SameUnder n s (changed s k)
unfolding any pairs_under
untouched_same n s (bring f) e = true_false refl e
untouched_same n s (keep_as m f) e = rw e (without_other n m s.kept (eqb-false m n e))
untouched_same n s (come_back m size) e = (refl, refl)
untouched_same n s (forget m) e = without_other n m s.kept (eqb-false m n e)

quiet_one : (n : ℕ) (s : State) (k : KeptCall) → (touches n k && eqb (fault_of s k) 0) ≡ false → SameUnder n s (after s k)
quiet_one n s k e =
    by_test (eqb (fault_of s k) 0) (λ t. rw t (untouched_same n s k (sym (and-true (touches n k)) ∙ (rw t at e)))) (λ t. rw t (refl, refl))

pub quiet_same : (n : ℕ) (s : State) (ks : List KeptCall) → is_quiet n s ks ≡ true → SameUnder n s (after_calls s ks)
unfolding is_quiet after_calls
quiet_same n s [] e = (refl, refl)
quiet_same n s (k ∷ ks) e =
    let r = and_two (not (touches n k && eqb (fault_of s k) 0)) (is_quiet n (after s k) ks) e in
    let first = quiet_one n s k (not-true (touches n k && eqb (fault_of s k) 0) r.0) in
    let rest = quiet_same n (after s k) ks r.1 in
    (rest.0 ∙ first.0, rest.1 ∙ first.1)

-- KEEPING
pub keeping_stands : (n : ℕ) (s : State) (f : List ℕ) → fault_of s (keep_as n f) ≡ 0 →
    (is_kept (after s (keep_as n f)) n ≡ true) × (pairs_under n (after s (keep_as n f)).kept ≡ plan_pairs f)
unfolding any pairs_under
keeping_stands n s f e = rw (eq-eqb (fault_of s (keep_as n f)) 0 e, eq-eqb n n refl) (refl, refl)

module _ (n : ℕ) where
  -- of accepted calls that decide, only a keeping leaves the name kept
  decided_last : (ls : List KeptCall) (k : KeptCall) (ks : List KeptCall) → touches n k ≡ true → fault_of (reached ls) k ≡ 0 →
      is_kept (changed (reached ls) k) n ≡ true → is_quiet n (after (reached ls) k) ks ≡ true → (f : List ℕ) × LastKept n (ls ++ k ∷ ks) f
  unfolding any
  decided_last ls (bring f) ks t e h q = true_false h refl
  decided_last ls (keep_as m f) ks t e h q =
      let same = eqb-true m n t in (
        f,
        record {
          before = ls;
          later = ks;
          calls = ap (λ (i : ℕ). ls ++ keep_as i f ∷ ks) same;
          accepted = rw same at e;
          quiet = rw same at q;
        },
      )
  decided_last ls (come_back m size) ks t e h q = true_false t refl
  decided_last ls (forget m) ks t e h q = true_false (rw (eqb-true m n t) at h) (without_gone n (reached ls).kept)

  pub kept_since : (ls ks : List KeptCall) → is_kept (reached (ls ++ ks)) n ≡ true →
      ((f : List ℕ) × LastKept n (ls ++ ks) f) ⊎ ((is_kept (reached ls) n ≡ true) × (is_quiet n (reached ls) ks ≡ true))
  unfolding is_quiet after_calls
  kept_since ls [] e = inr (rw append-nil at e, refl)
  kept_since ls (k ∷ ks) e =
      let s = reached ls in
      let whole : ls ++ (k ∷ []) ++ ks ≡ ls ++ k ∷ ks = append_assoc ls (k ∷ []) ks in
      let one : reached (ls ++ (k ∷ [])) ≡ after s k = calls_joined power_on ls (k ∷ []) in
      ⊎_elim (λ d. inl (rw whole at d))
      (λ r.
      let kept : is_kept (after s k) n ≡ true = rw one at r.0 in
      let quiet : is_quiet n (after s k) ks ≡ true = rw one at r.1 in
      by_test (touches n k && eqb (fault_of s k) 0)
      (λ t.
      let b = and_two (touches n k) (eqb (fault_of s k) 0) t in
      inl (decided_last ls k ks b.0 (eqb-true (fault_of s k) 0 b.1) (rw b.1 at kept) quiet))
      (λ t. inr (sym (quiet_one n s k t).0 ∙ kept, rw t quiet)))
      (kept_since (ls ++ (k ∷ [])) ks (rw (← whole) at e))
