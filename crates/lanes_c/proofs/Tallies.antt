-- The sixteen counts that a call leaves.
--   called         a call's result packed, and its outcome counted, which is the one that it comes to
--   counts_stand   where each count stands
--   counts_kept    sixteen counts and four sets are one and the same
--   counts_follow  what a call leaves, for the next one to begin with
use mathlib.Core.Path.{◌≡◌, refl, ap, ◌∙◌}
use mathlib.Core.List.{List, [], ◌∷◌}
use Prim.Native.Nat.{ℕ, zero, suc}
use native.Mathlib.Omega.{arith}
use lib.ListN.{length}
use Rattle.std.specs.Prelude.{Result}
use Rattle.lanes.specs.Tallies.{tallied, outcome_of, tally_after}
use Rattle.lanes.proofs.CallerPromises.{calls_follow, calls_leave}
use Rattle.lanes.specs.declared.Counts.{Counts}
use Rattle.lanes.specs.declared.Outcome.{Outcome}
use Rattle.lanes_c.specs.Exported.{tally_of, all_counts, CountsStand, CountsKept, Called, CountsFollow}

pub called : (all : List ℕ) (caller : ℕ) {Result : Type 0} (told : Result) {pack : Result → ℕ} {Owes : Result → List ℕ → Type 0} {result : ℕ} {after left : List ℕ}
    {came comes : Outcome} → Owes told after → result ≡ pack told → left ≡ all_counts (tallied (tally_of all) caller came) → came ≡ comes →
    Called pack Owes (tallied (tally_of all) caller comes) result after left
called all caller told o r p q =
    record { told = told; owes = o; returned = r; counted = p ∙ ap (λ (w : Outcome). all_counts (tallied (tally_of all) caller w)) q }

pub counts_stand : CountsStand
counts_stand cs zero h = (refl, refl, refl, refl)
counts_stand cs (suc zero) h = (refl, refl, refl, refl)
counts_stand cs (suc (suc zero)) h = (refl, refl, refl, refl)
counts_stand cs (suc (suc (suc zero))) h = (refl, refl, refl, refl)
counts_stand cs (suc (suc (suc (suc c)))) h = absurd (omega arith)

-- sixteen counts, one after the other
counts_same : (cs : List ℕ) → length cs ≡ 16 → all_counts (tally_of cs) ≡ cs
counts_same [] z = absurd (omega arith)
counts_same (a ∷ []) z = absurd (omega arith)
counts_same (a ∷ b ∷ []) z = absurd (omega arith)
counts_same (a ∷ b ∷ c ∷ []) z = absurd (omega arith)
counts_same (a ∷ b ∷ c ∷ d ∷ []) z = absurd (omega arith)
counts_same (a ∷ b ∷ c ∷ d ∷ e ∷ []) z = absurd (omega arith)
counts_same (a ∷ b ∷ c ∷ d ∷ e ∷ f ∷ []) z = absurd (omega arith)
counts_same (a ∷ b ∷ c ∷ d ∷ e ∷ f ∷ g ∷ []) z = absurd (omega arith)
counts_same (a ∷ b ∷ c ∷ d ∷ e ∷ f ∷ g ∷ h ∷ []) z = absurd (omega arith)
counts_same (a ∷ b ∷ c ∷ d ∷ e ∷ f ∷ g ∷ h ∷ i ∷ []) z = absurd (omega arith)
counts_same (a ∷ b ∷ c ∷ d ∷ e ∷ f ∷ g ∷ h ∷ i ∷ j ∷ []) z = absurd (omega arith)
counts_same (a ∷ b ∷ c ∷ d ∷ e ∷ f ∷ g ∷ h ∷ i ∷ j ∷ k ∷ []) z = absurd (omega arith)
counts_same (a ∷ b ∷ c ∷ d ∷ e ∷ f ∷ g ∷ h ∷ i ∷ j ∷ k ∷ l ∷ []) z = absurd (omega arith)
counts_same (a ∷ b ∷ c ∷ d ∷ e ∷ f ∷ g ∷ h ∷ i ∷ j ∷ k ∷ l ∷ m ∷ []) z = absurd (omega arith)
counts_same (a ∷ b ∷ c ∷ d ∷ e ∷ f ∷ g ∷ h ∷ i ∷ j ∷ k ∷ l ∷ m ∷ n ∷ []) z = absurd (omega arith)
counts_same (a ∷ b ∷ c ∷ d ∷ e ∷ f ∷ g ∷ h ∷ i ∷ j ∷ k ∷ l ∷ m ∷ n ∷ o ∷ []) z = absurd (omega arith)
counts_same (a ∷ b ∷ c ∷ d ∷ e ∷ f ∷ g ∷ h ∷ i ∷ j ∷ k ∷ l ∷ m ∷ n ∷ o ∷ p ∷ []) z = refl
counts_same (a ∷ b ∷ c ∷ d ∷ e ∷ f ∷ g ∷ h ∷ i ∷ j ∷ k ∷ l ∷ m ∷ n ∷ o ∷ p ∷ q ∷ cs) z = absurd (omega arith)

sets_same : (xs : List Counts) → length xs ≡ 4 → tally_of (all_counts (record { sets = xs })) ≡ record { sets = xs }
sets_same [] h = absurd (omega arith)
sets_same (a ∷ []) h = absurd (omega arith)
sets_same (a ∷ b ∷ []) h = absurd (omega arith)
sets_same (a ∷ b ∷ c ∷ []) h = absurd (omega arith)
sets_same (a ∷ b ∷ c ∷ d ∷ []) h = refl
sets_same (a ∷ b ∷ c ∷ d ∷ e ∷ xs) h = absurd (omega arith)

pub counts_kept : CountsKept
counts_kept = (counts_same, λ t four. sets_same t.sets four, λ cs. refl, refl)

pub counts_follow : CountsFollow
counts_follow Result pack Owes k all result after counts long d =
    let t = tally_after (tally_of all) k in (
      ap tally_of d.counted ∙ sets_same t.sets ((calls_follow (tally_of all) k []).2 refl),
      ap (λ (cs : List ℕ). length cs) d.counted,
      λ e. d.counted ∙ ap all_counts (calls_leave outcome_of (tally_of all) k e) ∙ counts_same all long,
      (d.told, (d.returned, d.owes)),
    )
