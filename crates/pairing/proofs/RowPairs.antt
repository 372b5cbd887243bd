-- A row read from pairs, the last first; and how many pairs it has.
--   lit_start, lit_next       no pair is lit; one pair more is
--   lit_named                 its cameras
--   pairs_size                at most one pair for each camera
use Rattle.std.proofs.Common.{◌≡◌, refl, sym, ◌∙◌, List, [], ◌∷◌, ◌++◌, append_assoc, ℕ, ◌≤◌, ◌<◌, length, get_or, arith}
use Rattle.std.proofs.lemmas.List.{append-nil}
use Rattle.std.specs.List.{push}
use mathlib.Core.Logic.{inl}
use lib.Dec.{ltb}
use Rattle.counting.specs.declared.Pair.{Pair}
use Rattle.counting.proofs.Booleans.{by_test}
use Rattle.counting.proofs.Membership.{in_right}
use Rattle.matching.specs.Stock.{Stock}
use Rattle.matching.specs.Matching.{pairs_in_order}
use Rattle.matching.specs.Row.{light_row}
use Rattle.matching.proofs.Rows.{length_light, light_row_lem, own_row}
use Rattle.matching.proofs.Matchings.{list_named}
use Rattle.matching.proofs.Promises.{well_formed_fits, well_formed_lit}
use Rattle.pairing.specs.Table.{StockTable}
use Rattle.pairing.specs.Row.{LitFrom}

-- LIT
pub lit_start : {pairs : List Pair} {row : List ℕ} → ((k : ℕ) → k < length row → get_or row k 0 ≡ k) → LitFrom pairs row pairs row
lit_start {pairs} {row} own = record { long = refl; done = []; whole = sym (append-nil pairs); lit = own_row row own }

module _ {s : Stock} {row₀ : List ℕ} {left : List Pair} {row : List ℕ} (T : StockTable s) (L : LitFrom s.lit row₀ left row) where
  whole_as : (rest : List Pair) (x : Pair) → left ≡ push rest x → s.lit ≡ rest ++ x ∷ L.done
  whole_as rest x l = L.whole ∙ rw l (append_assoc rest (x ∷ []) L.done)

  pub lit_named : (rest : List Pair) (x : Pair) → left ≡ push rest x → (x.first < x.second) × (x.second < s.cameras)
  lit_named rest x l =
      list_named s.cameras s.fits (well_formed_fits s T.well_formed) s.lit (well_formed_lit s T.well_formed) x
      (rw (whole_as rest x l) (in_right x rest (x ∷ L.done) (inl refl)))

  pub lit_next : length row₀ ≡ s.cameras → (rest : List Pair) (x : Pair) → left ≡ push rest x → LitFrom s.lit row₀ rest (light_row row x.first x.second)
  lit_next e rest x l =
      let long = L.long in
      let named = lit_named rest x l in
      record {
        long = length_light row x.first x.second ∙ L.long;
        done = x ∷ L.done;
        whole = whole_as rest x l;
        lit = light_row_lem row x L.done (omega arith) (omega arith) L.lit;
      }

-- IN ORDER
pub pairs_size : (p : ℕ → ℕ) (ks : List ℕ) → length (pairs_in_order p ks) ≤ length ks
unfolding pairs_in_order
pairs_size p [] = omega arith
pairs_size p (k ∷ ks) =
    let ih = pairs_size p ks in by_test (ltb k (p k)) (λ t. rw t (omega (arith, ih))) (λ t. rw t (omega (arith, ih)))
