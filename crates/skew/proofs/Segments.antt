-- The paths that labels give (SEG laws).
--   seg_unique              there is one at most
--   seg_step                one step, with its arc and its nodes named
--   seg_joins               it leads from its start to its end
--   spine, spine_nodes      the nodes whose labels are read on the way lie on the path
--   seg_mono                other labels that agree at reached nodes give the same
--   seg_compose             one path after another, where its start is not read on the way
use mathlib.Core.Path.{◌≡◌, refl, sym, ap, ap₂, subst, ◌∙◌}
use mathlib.Core.Logic.{inl, inr, ◌≢◌}
use mathlib.Core.Bool.{Bool, true}
use mathlib.Core.List.{List, [], ◌∷◌, ◌++◌, append_assoc, append-nil}
use Prim.Native.Nat.{ℕ, ◌<◌}
use lib.ListN.{length}
use Rattle.counting.specs.Lists.{In, reverse_map}
use Rattle.skew.specs.Graph.{Graph, mate, nodes_along}
use Rattle.skew.specs.Paths.{tail, head, Joins, SkewSymmetric}
use Rattle.skew.specs.Segments.{Seg, done, step}
use Rattle.counting.proofs.Membership.{in_left}
use Rattle.skew.proofs.Mates.{mate_mate}
use Rattle.skew.proofs.Paths.{joins_end, joins_append, nodes_append, joins_reverse}

module _ {g : Graph} {reached : ℕ → Bool} {via : ℕ → ℕ} where
  alike : {s t v : ℕ} {p q : List ℕ} → s ≡ t → Seg g reached via s v p → Seg g reached via t v q → p ≡ q
  alike e done done = refl
  alike e done (step l n h x y) = absurd (n e)
  alike e (step l n h x y) done = absurd (n (sym e))
  alike e (step {v = v} l n h x y) (step k m j u w) =
      ap₂ (λ (a b : List ℕ). a ++ via v ∷ reverse_map mate b) (alike e x u) (alike refl y w)

  pub seg_unique : {s v : ℕ} {p q : List ℕ} → Seg g reached via s v p → Seg g reached via s v q → p ≡ q
  seg_unique x y = alike refl x y

  -- the nodes at which the segment itself spine, its inner segments' left out
  unfoldable pub spine : {s v : ℕ} {p : List ℕ} → Seg g reached via s v p → List ℕ
  spine done = []
  spine (step {v = v} l n h x y) = v ∷ spine x

  -- a step, with its arc named
  pub seg_step : (s v e x y : ℕ) (p q : List ℕ) → reached v ≡ true → v ≢ s → via v ≡ e → e < length g.arcs → tail g e ≡ x →
      mate (head g e) ≡ y → Seg g reached via s x p → Seg g reached via (mate v) y q → Seg g reached via s v (p ++ e ∷ reverse_map mate q)
  seg_step s v e x y p q l n k h f i A B =
      subst (λ (z : ℕ). Seg g reached via s v (p ++ z ∷ reverse_map mate q)) k
      (step l n (rw k h) (subst (λ (z : ℕ). Seg g reached via s z p) (sym (ap (tail g) k ∙ f)) A)
      (subst (λ (z : ℕ). Seg g reached via (mate v) z q) (sym (ap (λ (z : ℕ). mate (head g z)) k ∙ i)) B))

  pub seg_joins : SkewSymmetric g → {s v : ℕ} {p : List ℕ} → Seg g reached via s v p → Joins g s v p
  seg_joins d done = refl
  seg_joins d (step {s = s} {v = v} {p = p} {q = q} l n h x y) =
      let r = joins_reverse g d (mate v) (mate (head g (via v))) q (seg_joins d y) in
      joins_append g s (tail g (via v)) v p (via v) (reverse_map mate q) (seg_joins d x) h refl
      (rw (mate_mate (head g (via v)), mate_mate v) at r)

  pub spine_nodes : (d : SkewSymmetric g) {s v : ℕ} {p : List ℕ} (x : Seg g reached via s v p) (k : ℕ) → In k (spine x) →
      In k (nodes_along g s p)
  unfolding spine
  spine_nodes d done k m = absurd m
  spine_nodes d (step {s = s} {v = v} {p = p} {q = q} l n h x y) k (inl e) =
      rw e (joins_end g s v (p ++ via v ∷ reverse_map mate q) (seg_joins d (step l n h x y)))
  spine_nodes d (step {s = s} {v = v} {p = p} {q = q} l n h x y) k (inr m) =
      rw (nodes_append g s p (via v) (reverse_map mate q))
      (in_left k (nodes_along g s p) (nodes_along g (head g (via v)) (reverse_map mate q)) (spine_nodes d x k m))

pub seg_mono : {g : Graph} {reached reached' : ℕ → Bool} {via via' : ℕ → ℕ} →
    ((u : ℕ) → reached u ≡ true → (reached' u ≡ true) × (via' u ≡ via u)) →
    {s v : ℕ} {p : List ℕ} → Seg g reached via s v p → Seg g reached' via' s v p
seg_mono h done = done
seg_mono {g} {reached} {reached'} {via} {via'} f (step {s = s} {v = v} {p = p} {q = q} l n h x y) =
    let r = f v l in
    seg_step s v (via v) (tail g (via v)) (mate (head g (via v))) p q r.0 n r.1 h refl refl (seg_mono f x) (seg_mono f y)

-- one segment after another, under labels that have changed elsewhere
pub seg_compose : {g : Graph} {reached reached' : ℕ → Bool} {via via' : ℕ → ℕ} →
    ((u : ℕ) → reached u ≡ true → (reached' u ≡ true) × (via' u ≡ via u)) →
    {a b v : ℕ} {p q : List ℕ} (x : Seg g reached via b v q) → (In a (spine x) → ⊥) → Seg g reached' via' a b p →
    Seg g reached' via' a v (p ++ q)
unfolding spine
seg_compose f {p = p} done out z = rw (append-nil p) z
seg_compose {g} {reached} {reached'} {via} {via'} f {a} {b} {p = p} (step {v = v} {p = p₁} {q = q₁} l n h x y) out z =
    let r = f v l in
    rw (← (append_assoc p p₁ (via v ∷ reverse_map mate q₁)))
    (seg_step a v (via v) (tail g (via v)) (mate (head g (via v))) (p ++ p₁) q₁ r.0 (λ e. out (inl (sym e))) r.1 h refl refl
    (seg_compose f x (λ m. out (inr m)) z) (seg_mono f y))
