-- A part of a path reversed in place, each arc's mate for the arc.
--   reverse_map_is         a list mapped and then reversed
--   stored_part            the part where a run was stored
--   part_sets              another run of that length written over it
use Rattle.std.proofs.Common.{◌≡◌, refl, ap, ◌∙◌, List, [], ◌∷◌, ◌++◌, append_assoc, ℕ, ◌+◌, ◌≤◌, map, reverse, length, take, drop, arith}
use Rattle.std.proofs.lemmas.List.{reverse-append, take_at, drop_at, length-take-le}
use Rattle.std.proofs.lemmas.List.Edits.{sets, sets-eq}
use borrow.Rule.Slice.PartMut.{put_mid}
use Rattle.counting.specs.Lists.{reverse_map}

pub reverse_map_is : (f : ℕ → ℕ) (xs : List ℕ) → reverse (map f xs) ≡ reverse_map f xs
reverse_map_is f [] = refl
reverse_map_is f (x ∷ xs) = reverse-append (f x ∷ []) (map f xs) ∙ ap (λ (l : List ℕ). l ++ f x ∷ []) (reverse_map_is f xs)

module _ (l p : List ℕ) (a k : ℕ) (e : k ≡ length p) (h : a + length p ≤ length l) where
  abbrev left : List ℕ
  left = drop (a + length p) l

  sets_parts : sets l a p ≡ take a l ++ (p ++ left)
  sets_parts = sets-eq p l a h ∙ append_assoc (take a l) p left

  front_long : length (take a l) ≡ a
  front_long = length-take-le a l (omega arith)

  pub stored_part : take k (drop a (sets l a p)) ≡ p
  stored_part = rw (e, sets_parts, drop_at (take a l) (p ++ left) a front_long) (take_at p left (length p) refl)

  pub part_sets : (q : List ℕ) → length q ≡ length p → put_mid a k (sets l a p) q ≡ sets l a q
  part_sets q f =
      rw (e, sets_parts, sets-eq q l a (omega arith), f, append_assoc (take a l) q left)
      (rw (take_at (take a l) (p ++ left) a front_long, drop_at (take a l) (p ++ left) a front_long, drop_at p left (length p) refl))
