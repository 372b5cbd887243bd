-- What each call owes, from what its parts answer.
--   call_refused, call_accepted           any call that may change the state
--   brought                               an accepted stock, put into the block, is what bringing it owes
--   plan_faulty, plan_stored              a plan file refused; its pairs kept, or 19
--   plan_small                            its pairs have room in a slot
--   forgot                                a name forgotten
use mathlib.Core.Path.{◌≡◌, refl, sym, subst, ◌∙◌}
use mathlib.Core.Logic.{◌≢◌}
use mathlib.Core.List.{List}
use Prim.Native.Nat.{ℕ, ◌≤◌}
use native.Mathlib.Omega.{arith}
use borrow.Author.Tests.{eq-eqb, ne_eqb, eqb-true, eqb-false}
use lib.Dec.{eqb}
use Rattle.std.specs.Prelude.{Some}
use lib.ListN.{length, take}
use Rattle.formats.specs.Limits.{pairs_most}
use Rattle.counting.specs.declared.Pair.{Pair}
use Rattle.counting.proofs.Booleans.{by_test}
use Rattle.frames.proofs.Questions.{or_stop, or_go}
use Rattle.files.specs.StockFile.{stock_fault}
use Rattle.files.specs.PlanFile.{plan_fault}
use Rattle.files.specs.Readers.{StockHeld, PlanRead}
use Rattle.files.proofs.PlanFiles.{plan_held, plan_few}
use Rattle.kept.specs.State.{KeptCall, bring, keep_as, forget, place_fault, fault_of, changed}
use Rattle.kept.specs.declared.slot.Slot.{Slot}
use Rattle.kept.specs.Block.{cameras_in, state_of, Owes}
use Rattle.kept.specs.Slots.{StockPut, KeptPut, ClosedUp, NameFound, Stored}
use Rattle.kept.proofs.Fronts.{kept_put}

-- ANY CALL
module _ {b : List ℕ} (k : KeptCall) {n : ℕ} (e : n ≡ fault_of (state_of b) k) where
  pub call_refused : n ≢ 0 → Owes b k n b
  call_refused h = record { says = e; leaves = rw (ne_eqb (fault_of (state_of b) k) 0 (λ z. h (e ∙ z))); untouched = λ _. refl }

  pub call_accepted : {c : List ℕ} → n ≡ 0 → state_of c ≡ changed (state_of b) k → Owes b k n c
  call_accepted z l =
      record { says = e; leaves = rw (eq-eqb (fault_of (state_of b) k) 0 (sym e ∙ z)) l; untouched = λ h. absurd (h z) }

-- A STOCK
pub brought : {b c f : List ℕ} {fits lit : List Pair} {n k l : ℕ} → StockHeld f fits lit n k l → stock_fault f ≡ 0 → StockPut n (take k fits) c →
    Owes b (bring f) 0 c
brought {f = f} h e p = call_accepted (bring f) (sym e) refl (p ∙ rw (h.cameras_are, h.fits_are))

-- A PLAN, read against the stock in the block
module _ (b : List ℕ) (n : ℕ) {cameras number count : ℕ} {f : List ℕ} {fits pairs pairs' : List Pair} (c : cameras ≡ cameras_in b)
    (k : fits ≡ (state_of b).fits) (r : PlanRead cameras fits f pairs pairs' number count) where
  fault_is : number ≡ plan_fault (state_of b).cameras (state_of b).fits f
  fault_is = rw (c, k) at r.says

  pub plan_faulty : number ≢ 0 → Owes b (keep_as n f) number b
  plan_faulty h = call_refused (keep_as n f) (fault_is ∙ sym (or_stop _ (place_fault (state_of b) n) (λ z. h (fault_is ∙ z)))) h

  module _ (e : number ≡ 0) where
    none : plan_fault (state_of b).cameras (state_of b).fits f ≡ 0
    none = sym fault_is ∙ e

    pub plan_small : length (take count pairs') ≤ pairs_most
    plan_small = rw (plan_held r e).pairs_are (plan_few (state_of b).cameras (state_of b).fits f (omega arith) none)

    pub plan_stored : {d : List ℕ} {m : ℕ} → Stored b n (take count pairs') m d → Owes b (keep_as n f) m d
    plan_stored {d} {m} s =
        let is : m ≡ fault_of (state_of b) (keep_as n f) = s.says ∙ sym (or_go _ (place_fault (state_of b) n) none) in
        by_test (eqb m 0) (λ t. let y = eqb-true m 0 t in call_accepted (keep_as n f) is y (s.leaves y ∙ rw (plan_held r e).pairs_are))
        (λ t.
        let h = eqb-false m 0 t in
        subst (λ (x : List ℕ). Owes b (keep_as n f) m x) (sym (s.untouched h)) (call_refused (keep_as n f) is h))

-- FORGETTING
pub forgot : (b : List ℕ) (n : ℕ) (s : Slot) {m c : List ℕ} {left : ℕ} → NameFound b n (Some s) → ClosedUp b n m left → KeptPut m left c → Owes b (forget n) 0 c
forgot b n s {m} F closed put =
    call_accepted (forget n) (rw F.1) refl (kept_put b m closed.front put (omega (arith, closed.few)) ∙ rw closed.entries)
