-- What holds of every state that calls from power-on lead to.
--   Sound s          at most eight entries, no name twice; a stock's cameras, and fits that rise; questions 9 and 12 to 14 accept each entry's pairs
--   reached_sound    every such state is sound
use mathlib.Core.Path.{◌≡◌, refl}
use mathlib.Core.Logic.{⊎_elim}
use mathlib.Core.Bool.{true, not}
use mathlib.Core.List.{List, [], ◌∷◌}
use Prim.Native.Nat.{ℕ, ◌≤◌}
use native.Mathlib.Omega.{arith}
use lib.Dec.{eqb}
use lib.ListN.{length}
use borrow.Author.Tests.{eqb-true}
use Rattle.formats.specs.Limits.{cameras_most, names_most}
use Rattle.counting.specs.Lists.{In, Distinct}
use Rattle.counting.proofs.Booleans.{by_test}
use Rattle.counting.proofs.Kept.{in_keep}
use Rattle.frames.specs.Questions.{first_no}
use Rattle.frames.proofs.Questions.{or_none, first_none}
use Rattle.matching.specs.Stock.{pairs_rise}
use Rattle.files.specs.PlanFile.{plan_pairs, plan_shape, pairing_questions, plan_fault}
use Rattle.files.proofs.AcceptedFiles.{stock_few, accepted_stock}
use Rattle.kept.specs.State.{Named, State, power_on, is_named, without, KeptCall, bring, keep_as, come_back, forget, place_fault, fault_of, changed, after, after_calls}
use Rattle.kept.specs.Promise.{reached}
use Rattle.kept.proofs.ByName.{without_fewer, placed_few, names_of, without_once}

pub record Sound (s : State) : Type 0 where
  pub few : length s.kept ≤ names_most
  pub once : Distinct (names_of s.kept)
  pub stocked : s.cameras ≤ cameras_most
  pub rising : pairs_rise s.fits ≡ true
  pub pairings : (x : Named) → In x s.kept → first_no (pairing_questions s.cameras s.fits x.pairs) ≡ 0

module _ (s : State) (S : Sound s) where
  -- an entry of those left was one before
  left_asked : (n : ℕ) (x : Named) → In x (without n s.kept) → first_no (pairing_questions s.cameras s.fits x.pairs) ≡ 0
  left_asked n x m = S.pairings x (in_keep (λ (y : Named). not (is_named n y)) s.kept x m).0

  sound_changed : (k : KeptCall) → fault_of s k ≡ 0 → Sound (changed s k)
  sound_changed (bring f) e =
      record {
        few = omega arith;
        once = tt;
        stocked = stock_few f e;
        rising = (accepted_stock f e).rising;
        pairings = λ x m. absurd m;
      }
  sound_changed (keep_as n f) e =
      let none = or_none (plan_fault s.cameras s.fits f) (place_fault s n) e in
      record {
        few = placed_few s n S.few none.1;
        once = without_once n s.kept S.once;
        stocked = S.stocked;
        rising = S.rising;
        pairings = λ x. ⊎_elim (λ q. rw q (first_none (plan_shape f) (pairing_questions s.cameras s.fits (plan_pairs f)) refl none.0).1) (left_asked n x);
      }
  sound_changed (come_back n size) e = S
  sound_changed (forget n) e =
      record {
        few = omega (arith, (without_fewer n s.kept).0, S.few);
        once = (without_once n s.kept S.once).1;
        stocked = S.stocked;
        rising = S.rising;
        pairings = left_asked n;
      }

  sound_after : (k : KeptCall) → Sound (after s k)
  sound_after k = by_test (eqb (fault_of s k) 0) (λ t. rw t (sound_changed k (eqb-true (fault_of s k) 0 t))) (λ t. rw t S)

sound_calls : (s : State) (ks : List KeptCall) → Sound s → Sound (after_calls s ks)
unfolding after_calls
sound_calls s [] S = S
sound_calls s (k ∷ ks) S = sound_calls (after s k) ks (sound_after s S k)

pub reached_sound : (ks : List KeptCall) → Sound (reached ks)
unfolding pairs_rise
reached_sound ks =
    sound_calls power_on ks (record { few = omega arith; once = tt; stocked = omega arith; rising = refl; pairings = λ x m. absurd m })
