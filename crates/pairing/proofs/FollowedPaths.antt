-- A path followed by rotations of a row, arc by arc.
--   NextRotation                      one more rotation: its cameras are in the row, and what is done then
--   following_turn, following_end     the loop's state at the next rotation, at its end
use Rattle.std.proofs.Common.{◌≡◌, refl, sym, ap, subst, ◌∙◌, List, [], ◌∷◌, ◌++◌, ℕ, ◌<◌, ◌/◌, length, get_or, arith}
use Rattle.skew.specs.Graph.{Graph, no_arc}
use Rattle.skew.specs.declared.Arc.{Arc}
use Rattle.matching.specs.Rotation.{rotate, rotate_along, Rotates}
use Rattle.matching.specs.Row.{partner_in, rotate_row}
use Rattle.matching.proofs.Rows.{row_partner, length_rotate, rotate_row_lem}
use Rattle.pairing.specs.Row.{row_graph, Following}

-- one more rotation: its cameras are in the row, and what is done then
pub record NextRotation (arcs : List Arc) (path row₀ : List ℕ) (e : ℕ) (rest row : List ℕ) : Type 0 where
  pub arc : e < length arcs
  pub first : (get_or arcs e no_arc).tail / 2 < length row
  pub second : (get_or arcs e no_arc).head / 2 < length row
  pub third : get_or row ((get_or arcs e no_arc).head / 2) 0 < length row
  pub next : Following arcs path row₀ rest (rotate_row row ((get_or arcs e no_arc).tail / 2) ((get_or arcs e no_arc).head / 2))

module _ {arcs : List Arc} {path row₀ : List ℕ} {left row : List ℕ} (F : Following arcs path row₀ left row) where
  abbrev g : Graph
  g = row_graph row₀ arcs

  following_two : (e f : ℕ) (rest : List ℕ) → left ≡ e ∷ f ∷ rest → NextRotation arcs path row₀ e rest row
  unfolding rotate_along
  following_two e f rest l =
      let r = subst (λ (z : List ℕ). Rotates (length row₀) g z (partner_in row)) l F.rotates in
      let u = (get_or arcs e no_arc).tail / 2 in
      let v = (get_or arcs e no_arc).head / 2 in
      let long = F.long in
      let third : get_or row v 0 < length row = let w = row_partner row v (omega (arith, r.2)) in omega (arith, r.3) in
      let same : partner_in (rotate_row row u v) ≡ rotate (partner_in row) u v =
      rotate_row_lem row u v (omega (arith, r.1)) (omega (arith, r.2)) third r.4 in
      record {
        arc = r.0;
        first = omega (arith, r.1);
        second = omega (arith, r.2);
        third = third;
        next =
            record {
              long = length_rotate row u v ∙ long;
              rotates = subst (λ (q : ℕ → ℕ). Rotates (length row₀) g rest q) (sym same) r.5;
              rest = ap (λ (q : ℕ → ℕ). rotate_along g rest q) same ∙ sym (ap (λ (z : List ℕ). rotate_along g z (partner_in row)) l) ∙ F.rest;
            };
      }

  pub following_turn : (turn rest : List ℕ) → left ≡ turn ++ rest → length turn ≡ 2 → NextRotation arcs path row₀ (get_or turn 0 0) rest row
  following_turn [] rest l two = absurd (omega arith)
  following_turn (e ∷ []) rest l two = absurd (omega arith)
  following_turn (e ∷ f ∷ []) rest l two = following_two e f rest l
  following_turn (e ∷ f ∷ d ∷ ds) rest l two = absurd (omega arith)

  pub following_end : length left < 2 → partner_in row ≡ rotate_along g path (partner_in row₀)
  unfolding rotate_along
  following_end h = sym (none left h) ∙ F.rest
    where
      none : (l : List ℕ) → length l < 2 → rotate_along g l (partner_in row) ≡ partner_in row
      none [] k = refl
      none (x ∷ []) k = refl
      none (x ∷ y ∷ ys) k = absurd (omega arith)
