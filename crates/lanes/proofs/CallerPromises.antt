-- What is promised of callers and of the tally, kept for every call and over any calls in a row.
--   caller_first, wrong_caller, callers_alike, outcomes_are     question 17, and what calls come to
--   calls_follow, call_counts, calls_leave                      one call
--   own_counts, own_alone, whatever_between                     a caller's own calls
--   total_from, total, few_below                                all counts together
use mathlib.Core.Path.{◌≡◌, refl, sym, ap, ◌∙◌}
use mathlib.Core.Logic.{◌⊎◌, inl, inr, ⊎_elim}
use mathlib.Core.Bool.{true, false}
use mathlib.Core.List.{List, [], ◌∷◌}
use Prim.Native.Nat.{ℕ, zero, suc, ◌+◌, ◌≤◌, ◌<◌}
use native.Mathlib.Omega.{arith}
use lib.Dec.{leb, ltb, eqb}
use lib.ListN.{length, length-set}
use lib.Seq.{get_or-set_same, get_or-set_other}
use borrow.Author.Tests.{eqb-true, eqb-false, leb-true, leb-false, lt-ltb, le-ltb}
use Rattle.formats.specs.Limits.{callers}
use Rattle.counting.specs.Sums.{sum}
use Rattle.counting.specs.Tests.{pick, keep}
use Rattle.counting.proofs.Booleans.{by_test}
use Rattle.counting.proofs.Summation.{sum_one_more}
use Rattle.lanes.specs.Entry.{told, Told, SearchedTold}
use Rattle.lanes.specs.Tallies.{count_most, raised, no_counts, added, counts_of, tallied, Asked, graph, stock, budget, Call, call, check, OutcomeRule, outcome_of, tally_by, after_calls}
use Rattle.lanes.specs.CallerPromise.{CallerFirst, WrongCaller, CallersAlike, OutcomesAre, HasFour, CallsFollow, count_in, count_of, CountsOne, CallCounts, is_counted, CallsLeave, is_by, own_calls, added_by, counts_after, OwnCounts, OwnAlone, WhateverBetween, together, total_of, AreBelow, counted_calls, TotalFrom, zeros, Total, FewBelow}
use Rattle.lanes.specs.declared.Counts.{Counts}
use Rattle.lanes.specs.declared.Tally.{Tally}
use Rattle.lanes.specs.declared.Outcome.{Outcome}
use Rattle.lanes.specs.declared.Outcome.TheVariants.{Path, Barrier, Stock, Refusal}

-- QUESTION 17
no_caller : (c : ℕ) → 4 ≤ c → ltb c callers ≡ false
no_caller c h = le-ltb c callers h

some_caller : (c : ℕ) → c ≤ 3 → ltb c callers ≡ true
some_caller c h = lt-ltb c callers (omega arith)

pub caller_first : CallerFirst
caller_first c b f n = (
  λ h. rw (no_caller c h) (refl, refl, refl),
  λ h. rw (some_caller c h) (refl, refl, refl),
)

pub wrong_caller : WrongCaller
wrong_caller c f o v h = (
  λ r owes. told_17 (rw (no_caller c h) at (owes.0 (rw (no_caller c h)))),
  λ r owes. told_17 (rw (no_caller c h) at (owes.0 (rw (no_caller c h)))),
  λ b r owes.
      let q = rw (no_caller c h) at (owes.0 (rw (no_caller c h))) in
      let e = told_17 (ap (λ (x : SearchedTold). x.told) q.0, q.1) in
      (e.0, e.1, ap (λ (x : SearchedTold). x.searches) q.0, e.2),
)
  where
    told_17 : {r : Told} → (r ≡ told 17 0) × (v ≡ o) → (r.number ≡ 17) × (r.size ≡ 0) × (v ≡ o)
    told_17 q = (ap (λ (x : Told). x.number) q.0, ap (λ (x : Told). x.size) q.0, q.1)

pub callers_alike : CallersAlike
callers_alike c d f h k = (
  λ o v r. rw same (λ x. x, λ x. x),
  λ o v r. rw same (λ x. x, λ x. x),
  λ b o v r. rw same (λ x. x, λ x. x),
  comes,
)
  where
    same : ltb c callers ≡ ltb d callers
    same = some_caller c h ∙ sym (some_caller d k)

    comes : (a : Asked) (n : ℕ) → outcome_of c a f n ≡ outcome_of d a f n
    comes graph n = rw same
    comes stock n = rw same
    comes (budget b) n = rw same

pub outcomes_are : OutcomesAre
outcomes_are c b f n = (λ e p. rw (e, p), λ e p. rw (e, p), λ e. rw e, λ e. rw e, λ e. rw e, λ e. rw e, λ e. rw e)

-- ONE CALL
counts_one : (n : ℕ) → CountsOne n (raised n)
counts_one n = (λ h. rw (lt-ltb n count_most h), λ h. rw (le-ltb n count_most h))

added_one : (x : Counts) (w : Outcome) → count_in (added x w) w ≡ raised (count_in x w)
added_one x Path = refl
added_one x Barrier = refl
added_one x Stock = refl
added_one x Refusal = refl

-- an outcome's count is raised by that outcome, and left by the others
added_by_lem : (x : Counts) (w u : Outcome) → ((u ≡ w) × (count_in (added x w) u ≡ raised (count_in x u))) ⊎ (count_in (added x w) u ≡ count_in x u)
added_by_lem x Path Path = inl (refl, refl)
added_by_lem x Path Barrier = inr refl
added_by_lem x Path Stock = inr refl
added_by_lem x Path Refusal = inr refl
added_by_lem x Barrier Path = inr refl
added_by_lem x Barrier Barrier = inl (refl, refl)
added_by_lem x Barrier Stock = inr refl
added_by_lem x Barrier Refusal = inr refl
added_by_lem x Stock Path = inr refl
added_by_lem x Stock Barrier = inr refl
added_by_lem x Stock Stock = inl (refl, refl)
added_by_lem x Stock Refusal = inr refl
added_by_lem x Refusal Path = inr refl
added_by_lem x Refusal Barrier = inr refl
added_by_lem x Refusal Stock = inr refl
added_by_lem x Refusal Refusal = inl (refl, refl)

module _ (t : Tally) (c : ℕ) (w : Outcome) (low : c ≤ 3) where
  tallied_own : HasFour t → counts_of (tallied t c w) c ≡ added (counts_of t c) w
  tallied_own four = rw (some_caller c low) (get_or-set_same t.sets c (added (counts_of t c) w) no_counts (omega arith))

  tallied_other : (d : ℕ) → (d ≡ c → ⊥) → counts_of (tallied t c w) d ≡ counts_of t d
  tallied_other d other = rw (some_caller c low) (get_or-set_other t.sets c d (added (counts_of t c) w) no_counts other)

tallied_none : (t : Tally) (c : ℕ) (w : Outcome) → 4 ≤ c → tallied t c w ≡ t
tallied_none t c w h = rw (no_caller c h)

pub call_counts : CallCounts
call_counts h t c a f n four low =
    let w = h c a f n in (
      rw (ap (λ (x : Counts). count_in x w) (tallied_own t c w low four) ∙ added_one (counts_of t c) w) (counts_one (count_of t c w)),
      λ d u other.
          by_test (eqb d c)
          (λ e. let s = eqb-true d c e in rw s (ap (λ (x : Counts). count_in x u) (tallied_own t c w low four) ∙ ⊎_elim (λ q. absurd (other s q.0)) (λ q. q) (added_by_lem (counts_of t c) w u)))
          (λ e. ap (λ (x : Counts). count_in x u) (tallied_other t c w low d (eqb-false d c e))),
    )

pub calls_leave : CallsLeave
calls_leave h t (call c a f n) e = tallied_none t c (h c a f n) (leb-false c 3 e)
calls_leave h t (check g k) e = refl

-- A CALLER'S OWN CALLS
four_after : (h : OutcomeRule) (t : Tally) (k : Call) → HasFour t → HasFour (tally_by h t k)
four_after h t (call c a f n) four =
    by_test (ltb c callers) (λ e. rw e (length-set t.sets c (added (counts_of t c) (h c a f n)) ∙ four)) (λ e. rw e four)
four_after h t (check g k) four = four

-- a call of a caller adds to that caller's counts, one of another leaves them
one_call : (h : OutcomeRule) (t : Tally) (k : Call) (c : ℕ) → HasFour t → c ≤ 3 →
    counts_of (tally_by h t k) c ≡ pick (is_by c k) (added_by h (counts_of t c) k) (counts_of t c)
one_call h t (check g k) c four low = refl
one_call h t (call d a f n) c four low =
    by_test (eqb c d)
    (λ e. let s = eqb-true c d e in rw (e, ← s) (tallied_own t c (h c a f n) low four))
    (λ e.
    rw e
    (by_test (leb d 3) (λ z. tallied_other t d (h d a f n) (leb-true d 3 z) c (eqb-false c d e))
    (λ z. ap (λ (u : Tally). counts_of u c) (tallied_none t d (h d a f n) (leb-false d 3 z)))))

pub calls_follow : CallsFollow
unfolding after_calls
calls_follow t k ks = (refl, refl, four_after outcome_of t k)

pub own_counts : OwnCounts
unfolding after_calls keep counts_after
own_counts h t [] c four low = refl
own_counts h t (k ∷ ks) c four low =
    own_counts h (tally_by h t k) ks c (four_after h t k four) low ∙
    rw (one_call h t k c four low) (by_test (is_by c k) (λ e. rw e) (λ e. rw e))

own_twice : (c : ℕ) (ks : List Call) → own_calls c (own_calls c ks) ≡ own_calls c ks
unfolding keep
own_twice c [] = refl
own_twice c (k ∷ ks) =
    by_test (is_by c k) (λ e. rw e (rw e (ap (λ (xs : List Call). k ∷ xs) (own_twice c ks)))) (λ e. rw e (own_twice c ks))

pub whatever_between : WhateverBetween
whatever_between h t u ks ls c four fours low same own =
    own_counts h t ks c four low ∙ ap (λ (x : Counts). counts_after h x (own_calls c ks)) same ∙ ap (counts_after h (counts_of u c)) own ∙
    sym (own_counts h u ls c fours low)

pub own_alone : OwnAlone
own_alone h t ks c four low = whatever_between h t t ks (own_calls c ks) c four four low refl (sym (own_twice c ks))

-- ALL COUNTS TOGETHER: a call raises no count by more than one, and lets none fall
raised_near : (n : ℕ) → (n ≤ raised n) × (raised n ≤ suc n)
raised_near n = by_test (ltb n count_most) (λ e. rw e (omega arith, omega arith)) (λ e. rw e (omega arith, omega arith))

added_near : (x : Counts) (w u : Outcome) → (count_in x u ≤ count_in (added x w) u) × (count_in (added x w) u ≤ suc (count_in x u))
added_near x w u = ⊎_elim (λ q. rw q.1 (raised_near (count_in x u))) (λ q. (omega (arith, q), omega (arith, q))) (added_by_lem x w u)

one_near : (h : OutcomeRule) (t : Tally) (k : Call) (c : ℕ) (u : Outcome) → HasFour t → c ≤ 3 →
    (count_of t c u ≤ count_of (tally_by h t k) c u) × (count_of (tally_by h t k) c u ≤ suc (count_of t c u))
one_near h t k c u four low = rw (one_call h t k c four low) (go k)
  where
    go : (k : Call) →
        let after = count_in (pick (is_by c k) (added_by h (counts_of t c) k) (counts_of t c)) u in (count_of t c u ≤ after) × (after ≤ suc (count_of t c u))
    go (check g z) = (omega arith, omega arith)
    go (call d a f n) = by_test (eqb c d) (λ e. rw e (added_near (counts_of t c) (h d a f n) u)) (λ e. rw e (omega arith, omega arith))

all_near : (h : OutcomeRule) (t : Tally) (ks : List Call) (c : ℕ) (u : Outcome) → HasFour t → c ≤ 3 →
    (count_of t c u ≤ count_of (after_calls h t ks) c u) × (count_of (after_calls h t ks) c u ≤ count_of t c u + length ks)
unfolding after_calls
all_near h t [] c u four low = (omega arith, omega arith)
all_near h t (k ∷ ks) c u four low =
    let one = one_near h t k c u four low in
    let rest = all_near h (tally_by h t k) ks c u (four_after h t k four) low in
    (omega (arith, one.0, rest.0), omega (arith, one.1, rest.1))

one_more : (x : Counts) (w : Outcome) → count_in x w < count_most → together (added x w) ≡ suc (together x)
one_more x Path l = rw (lt-ltb x.paths count_most l) (omega arith)
one_more x Barrier l = rw (lt-ltb x.barriers count_most l) (omega arith)
one_more x Stock l = rw (lt-ltb x.stocks count_most l) (omega arith)
one_more x Refusal l = rw (lt-ltb x.refusals count_most l) (omega arith)

one_total : (h : OutcomeRule) (t : Tally) (k : Call) → HasFour t → AreBelow t → total_of (tally_by h t k) ≡ total_of t + pick (is_counted k) 1 0
one_total h t (check g z) four below = omega arith
one_total h t (call c a f n) four below =
    by_test (leb c 3)
    (λ e.
    let low = leb-true c 3 e in
    let w = h c a f n in
    let s : total_of (tallied t c w) ≡ suc (total_of t) =
    sum_one_more (λ (d : ℕ). together (counts_of t d)) (λ (d : ℕ). together (counts_of (tallied t c w) d)) 4 c (omega arith)
    (ap together (tallied_own t c w low four) ∙ one_more (counts_of t c) w (below c w low)) (λ d other. ap together (tallied_other t c w low d other)) in
    rw e (omega (arith, s)))
    (λ e. rw (e, tallied_none t c (h c a f n) (leb-false c 3 e)) (omega arith))

pub total_from : TotalFrom
unfolding after_calls keep
total_from h t [] four below = omega arith
total_from h t (k ∷ ks) four below =
    let next = four_after h t k four in
    let first : AreBelow t = λ c w low. omega (arith, below c w low, (all_near h t (k ∷ ks) c w four low).0) in
    let one = one_total h t k four first in
    let rest = total_from h (tally_by h t k) ks next below in
    by_test (is_counted k) (λ e. rw e (omega (arith, rest, rw e at one))) (λ e. rw e (omega (arith, rest, rw e at one)))

pub total : Total
unfolding sum
total h ks below =
    let e : total_of (after_calls h zeros ks) ≡ 0 + counted_calls ks = total_from h zeros ks refl below in
    omega arith

no_count : (u : Outcome) → count_in no_counts u ≡ 0
no_count Path = refl
no_count Barrier = refl
no_count Stock = refl
no_count Refusal = refl

zero_counts : (c : ℕ) (u : Outcome) → c ≤ 3 → count_of zeros c u ≡ 0
zero_counts zero u low = no_count u
zero_counts (suc zero) u low = no_count u
zero_counts (suc (suc zero)) u low = no_count u
zero_counts (suc (suc (suc zero))) u low = no_count u
zero_counts (suc (suc (suc (suc c)))) u low = absurd (omega arith)

pub few_below : FewBelow
few_below h ks few c u low = omega (arith, (all_near h zeros ks c u refl low).1, zero_counts c u low)
