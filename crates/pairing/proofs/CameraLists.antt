-- A list written camera by camera, over a row that is gone through with the numbers of its cameras: a list for each camera, one behind the other.
--   by_camera_room        the next camera's list fits
--   by_camera_next        it is written
--   by_camera_end         all are
use Rattle.std.proofs.Common.{◌≡◌, sym, ap, ◌∙◌, List, [], ◌∷◌, ◌++◌, ℕ, suc, ◌+◌, ◌-◌, ◌≤◌, ◌<◌, length, get_or, drop, arith, add-one, length-append, drop-cons}
use Rattle.std.proofs.Math.ListN.{drop_of_length-le}
use mathlib.Core.Logic.{◌⊎◌, ⊎_elim}
use Rattle.formats.specs.Limits.{cameras_most}
use Rattle.counting.specs.Tests.{below}
use Rattle.counting.specs.SliceVecs.{Extended}
use Rattle.counting.specs.declared.slice_vec.SliceVec.{SliceVec}
use Rattle.counting.proofs.Range.{length_up}
use Rattle.counting.proofs.Loops.{next_below}
use Rattle.counting.proofs.SliceVecs.{extending_next, extending_end, extending_room}
use Rattle.matching.specs.Row.{partner_in}
use Rattle.matching.proofs.Rows.{row_partner}
use Rattle.pairing.specs.Row.{ByCamera}

module _ {A : Type 0} {list_for : List ℕ → List A} {row : List ℕ} {v w : SliceVec A} {left : List ℕ} {k : ℕ} (B : ByCamera list_for row v left k w) where
  -- the row ends, and not the numbers
  pub by_camera_end : {X Y : Type 0} {x : X} {y : Y} → length row ≤ cameras_most → list_for [] ≡ [] →
      ((z : X) × ((length left ≡ 0) × (z ≡ x))) ⊎ ((z : Y) × ((255 - k ≡ 0) × (z ≡ y))) → Extended v (list_for (below (length row))) w
  by_camera_end few e ends =
      let none : length left ≡ 0 = ⊎_elim (λ r. r.1.0) (λ r. absurd (omega (arith, r.1.0, B.inside))) ends in
      extending_end B.written (ap list_for (drop_of_length-le (below (length row)) {i = k} (omega (arith, B.inside, length_up 0 (length row)))) ∙ e)

  -- the next camera is j, with partner p, and has the list one j p
  module _ (one : ℕ → ℕ → List A) (e : (c : ℕ) (cs : List ℕ) → list_for (c ∷ cs) ≡ one c (partner_in row c) ++ list_for cs) {p j next : ℕ} {rest : List ℕ} (step : (left ≡ p ∷ rest) × ((j ≡ k) × (next ≡ j + 1))) where
    low : k < length row
    low = omega (arith, B.inside, ap length step.0)

    here : get_or row k 0 ∷ drop (suc k) row ≡ p ∷ rest
    here = sym (drop-cons row k 0 low) ∙ sym B.left_is ∙ step.0

    partner_is : partner_in row k ≡ p
    partner_is = let h = here in let q : get_or row k 0 ≡ p = cc in row_partner row k low ∙ q

    split : list_for (drop k (below (length row))) ≡ one j p ++ list_for (drop (k + 1) (below (length row)))
    split =
        let after = drop (k + 1) (below (length row)) in
        ap list_for (next_below (length row) k low).is ∙ e k after ∙ rw (partner_is, step.1.0)

    pub by_camera_room : v.len + length (list_for (below (length row))) ≤ length v.slice.now → w.len + length (one j p) ≤ length w.slice.now
    by_camera_room h =
        omega (arith, extending_room B.written h, ap length split, length-append (one j p) (list_for (drop (k + 1) (below (length row)))))

    pub by_camera_next : {w' : SliceVec A} → Extended w (one j p) w' → ByCamera list_for row v rest next w'
    by_camera_next x =
        let h = here in
        let same : rest ≡ drop (suc k) row = cc in
        let n : next ≡ k + 1 = omega (arith, step.1.0, step.1.1) in
        rw n
        (record {
          left_is = rw add-one same;
          inside = omega (arith, B.inside, ap length step.0);
          written = extending_next B.written (one j p) split x;
        })
