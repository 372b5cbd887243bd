-- A list in a lent slice, which grows from the front.
--   Begun slice w           w is an empty list in the slice that is lent
--   Extended v xs w         w is the list v with xs behind it, in the same slice; what stands behind that is as it was
--   Extending v xs w left   w is v with part of xs behind it: with what is left behind w too, all of xs is
use Rattle.std.specs.Prelude.{◌≡◌, List, ◌+◌, length}
use Rattle.std.specs.Borrow.{MutBor}
use Rattle.std.proofs.lemmas.List.Edits.{sets}
use Rattle.counting.specs.declared.slice_vec.SliceVec.{SliceVec}

pub record Begun {A : Type 0} (slice : MutBor (List A)) (w : SliceVec A) : Type 0 where
  pub slice_is : w.slice.now ≡ slice.now
  pub empty : w.len ≡ 0
  pub same : w.slice.ghost_name ≡ slice.ghost_name

pub record Extended {A : Type 0} (v : SliceVec A) (xs : List A) (w : SliceVec A) : Type 0 where
  pub slice_is : w.slice.now ≡ sets v.slice.now v.len xs
  pub len_is : w.len ≡ v.len + length xs
  pub same : w.slice.ghost_name ≡ v.slice.ghost_name

pub record Extending {A : Type 0} (v : SliceVec A) (xs : List A) (w : SliceVec A) (left : List A) : Type 0 where
  pub slice_is : sets w.slice.now w.len left ≡ sets v.slice.now v.len xs
  pub len_is : w.len + length left ≡ v.len + length xs
  pub long : length w.slice.now ≡ length v.slice.now
  pub same : w.slice.ghost_name ≡ v.slice.ghost_name
