-- What a caller reads of a pairing that it was handed at the front of a table.
--   plan_pairing, plan_greatest     a plan is a pairing, with the greatest number of pairs
--   listed_few        two cameras for each pair
--   listed_read       the pairs, read back
use mathlib.Core.Path.{◌≡◌}
use mathlib.Core.Bool.{true}
use mathlib.Core.List.{List}
use Prim.Native.Nat.{ℕ, ◌*◌, ◌≤◌}
use native.Mathlib.Omega.{arith}
use lib.Dec.{eqb}
use lib.ListN.{length, take}
use borrow.Author.Tests.{eqb-true}
use Rattle.counting.specs.declared.Pair.{Pair}
use Rattle.counting.proofs.Booleans.{and_five}
use Rattle.counting.proofs.Stores.{take_sets}
use Rattle.matching.specs.Stock.{Stock, is_pairing, greatest, pairs_rise, keeps_lit, is_plan}
use Rattle.matching.specs.Promise.{WellFormedStock}
use Rattle.matching.proofs.Matchings.{list_count}
use Rattle.matching.proofs.Promises.{well_formed_fits}
use Rattle.pairing.specs.Table.{Put}

pub plan_pairing : (s : Stock) (ps : List Pair) → is_plan s ps ≡ true → is_pairing s.fits ps ≡ true
plan_pairing s ps h = (and_five _ _ _ _ _ h).0

pub plan_greatest : (s : Stock) (ps : List Pair) → is_plan s ps ≡ true → length ps ≡ greatest s.fits
plan_greatest s ps h =
    let most = eqb (length ps) (greatest s.fits) in
    eqb-true (length ps) (greatest s.fits) (and_five (is_pairing s.fits ps) most (keeps_lit s ps) (pairs_rise ps) _ h).1

module _ {s : Stock} (W : WellFormedStock s) {ps : List Pair} (P : is_pairing s.fits ps ≡ true) {before after : List Pair} {r : ℕ} (w : Put before 0 after r ps) where
  pub listed_few : 2 * r ≤ s.cameras
  listed_few = omega (arith, w.count, list_count s.cameras s.fits (well_formed_fits s W) ps P)

  pub listed_read : s.cameras ≤ length before → take r after ≡ ps
  listed_read h =
      let few = listed_few in
      let c : r ≡ length ps = omega (arith, w.count) in
      rw (w.entries, c) (take_sets before ps (omega arith))
