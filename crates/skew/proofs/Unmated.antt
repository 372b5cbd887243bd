-- Lists of arcs in which none stands with its mate.
--   no_mates_unmated, unmated_no_mates      the test no_mates
--   unmated_reverse                         all mated and reversed
--   unmated_append                          two such lists, none of the second the mate of one of the first
use mathlib.Core.Path.{◌≡◌, refl, sym, ap, subst, ◌∙◌}
use mathlib.Core.Logic.{◌⊎◌, inl, inr}
use mathlib.Core.Bool.{true, not}
use mathlib.Core.List.{List, [], ◌∷◌, ◌++◌}
use Prim.Native.Nat.{ℕ}
use Rattle.counting.specs.Tests.{among}
use Rattle.counting.specs.Lists.{In, Apart, reverse_map}
use Rattle.skew.specs.Graph.{mate, no_mates}
use Rattle.skew.specs.Paths.{Unmated}
use Rattle.counting.proofs.Booleans.{and_left, and_right, and_both}
use Rattle.counting.proofs.Membership.{in_append, not_among_out, out_not_among}
use Rattle.counting.proofs.Reversal.{in_reverse, reverse_in}
use Rattle.skew.proofs.Mates.{mate_mate, mate_other, mate_inj}

pub no_mates_unmated : (xs : List ℕ) → no_mates xs ≡ true → Unmated xs
unfolding no_mates
no_mates_unmated [] e x m n = m
no_mates_unmated (y ∷ ys) e x (inl p) (inl q) = mate_other x (q ∙ sym p)
no_mates_unmated (y ∷ ys) e x (inl p) (inr n) = not_among_out (mate y) ys (and_left _ _ e) (subst (λ (k : ℕ). In (mate k) ys) p n)
no_mates_unmated (y ∷ ys) e x (inr m) (inl q) =
    not_among_out (mate y) ys (and_left _ _ e) (subst (λ (k : ℕ). In k ys) (sym (mate_mate x) ∙ ap mate q) m)
no_mates_unmated (y ∷ ys) e x (inr m) (inr n) = no_mates_unmated ys (and_right (not (among (mate y) ys)) _ e) x m n

pub unmated_no_mates : (xs : List ℕ) → Unmated xs → no_mates xs ≡ true
unfolding no_mates
unmated_no_mates [] u = refl
unmated_no_mates (y ∷ ys) u =
    and_both _ _ (out_not_among (mate y) ys (λ m. u y (inl refl) (inr m))) (unmated_no_mates ys (λ x m n. u x (inr m) (inr n)))

pub unmated_reverse : (xs : List ℕ) → Unmated xs → Unmated (reverse_map mate xs)
unmated_reverse xs u x m n =
    let r = in_reverse mate x xs m in
    let s = in_reverse mate (mate x) xs n in
    u r.0 r.1 (subst (λ (k : ℕ). In k xs) (mate_inj s.0 (mate r.0) (sym s.2 ∙ ap mate r.2)) s.1)

pub unmated_append : (xs ys : List ℕ) → Unmated xs → Unmated ys → Apart (reverse_map mate xs) ys → Unmated (xs ++ ys)
unmated_append xs ys u w a x m n = go (in_append x xs ys m) (in_append (mate x) xs ys n)
  where
    go : In x xs ⊎ In x ys → In (mate x) xs ⊎ In (mate x) ys → ⊥
    go (inl p) (inl q) = u x p q
    go (inl p) (inr q) = a (mate x) (reverse_in mate x xs p) q
    go (inr p) (inl q) = a x (subst (λ (k : ℕ). In k (reverse_map mate xs)) (mate_mate x) (reverse_in mate (mate x) xs q)) p
    go (inr p) (inr q) = w x p q
