-- Pairs of numbers as arcs.
--   arcs_length, arc_at          as many arcs as pairs; the arc at a place is the pair that stands there
--   all_arcs                     a test of each arc is one of each pair
--   zipped_length, zipped_at     of two lists zipped, tails and heads: as many arcs as tails; the arc at a place leads from the one's number to the other's
--   next_arc                     the same arc, for a loop
use mathlib.Core.Path.{◌≡◌, refl, ap, ◌∙◌}
use mathlib.Core.Bool.{Bool, ◌&&◌}
use mathlib.Core.List.{List, [], ◌∷◌}
use Prim.Native.Nat.{ℕ, zero, suc, ◌<◌}
use native.Mathlib.Omega.{arith}
use lib.ListN.{length, get_or}
use Rattle.counting.specs.Tests.{all}
use Rattle.counting.specs.Pairs.{no_pair, zip_pairs}
use Rattle.counting.specs.declared.Pair.{Pair}
use Rattle.counting.specs.Loops.{Next}
use Rattle.counting.proofs.Zips.{zip_length, zip_within}
use Rattle.counting.proofs.Loops.{next_in}
use Rattle.skew.specs.Graph.{arc, no_arc, arc_of, arcs_of}
use Rattle.skew.specs.declared.Arc.{Arc}

pub arcs_length : (xs : List Pair) → length (arcs_of xs) ≡ length xs
unfolding arcs_of
arcs_length [] = refl
arcs_length (x ∷ xs) = ap suc (arcs_length xs)

pub arc_at : (xs : List Pair) (i : ℕ) → get_or (arcs_of xs) i no_arc ≡ arc_of (get_or xs i no_pair)
unfolding arcs_of
arc_at [] i = refl
arc_at (x ∷ xs) zero = refl
arc_at (x ∷ xs) (suc i) = arc_at xs i

pub zipped_at : (ts hs : List ℕ) (i : ℕ) → i < length (arcs_of (zip_pairs ts hs)) → get_or (arcs_of (zip_pairs ts hs)) i no_arc ≡ arc (get_or ts i 0) (get_or hs i 0)
zipped_at ts hs i h = arc_at (zip_pairs ts hs) i ∙ ap arc_of (zip_within ts hs i (omega (arith, arcs_length (zip_pairs ts hs))))

pub zipped_length : (ts hs : List ℕ) → length hs ≡ length ts → length (arcs_of (zip_pairs ts hs)) ≡ length ts
zipped_length ts hs e = arcs_length (zip_pairs ts hs) ∙ zip_length ts hs e

pub next_arc : (ts hs : List ℕ) (i : ℕ) → length hs ≡ length ts → i < length ts → Next (arcs_of (zip_pairs ts hs)) i (arc (get_or ts i 0) (get_or hs i 0))
next_arc ts hs i e l =
    let h : i < length (arcs_of (zip_pairs ts hs)) = omega (arith, zipped_length ts hs e) in
    rw (zipped_at ts hs i h) at (next_in (arcs_of (zip_pairs ts hs)) no_arc i h)

pub all_arcs : (f : Arc → Bool) (xs : List Pair) → all f (arcs_of xs) ≡ all (λ (x : Pair). f (arc_of x)) xs
unfolding arcs_of all
all_arcs f [] = refl
all_arcs f (x ∷ xs) = ap (λ (b : Bool). f (arc_of x) && b) (all_arcs f xs)
