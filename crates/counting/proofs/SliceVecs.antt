-- A list in a lent slice: extended by one list after another.
--   extended_then                   by one list and then another: by both
--   extended_long                   the slice is as long as before
--   extended_taken                  what the list is then
--   extended_lent                   what who lent the slice finds in it then
--   extending_start, extending_next, extending_end      part by part: nothing yet; one part more; all
--   extending_room                  what is left fits where the whole does
--   part_put                        the slice after a part of it was copied to
use mathlib.Core.Path.{◌≡◌, refl, sym, ap, ◌∙◌}
use mathlib.Core.List.{List, [], ◌++◌, append_assoc}
use Prim.Native.Nat.{ℕ, ◌+◌, ◌-◌, ◌≤◌}
use native.Mathlib.Omega.{arith}
use borrow.Rule.Slice.PartMut.{put_mid}
use lib.ListN.{length, take, length-append}
use lib.Seq.{sets, length-sets, sets-eq, drop-drop}
use Rattle.std.specs.Borrow.{MutBor}
use Rattle.counting.specs.SliceVecs.{Begun, Extended, Extending}
use Rattle.counting.specs.declared.slice_vec.SliceVec.{SliceVec}
use Rattle.counting.proofs.Stores.{sets_append, take_sets}

module _ {A : Type 0} {u v : SliceVec A} {xs : List A} (x : Extended u xs v) where
  pub extended_then : {w : SliceVec A} {ys : List A} → Extended v ys w → Extended u (xs ++ ys) w
  extended_then {ys = ys} y =
      record {
        slice_is = y.slice_is ∙ rw (x.slice_is, x.len_is) (sets_append u.slice.now u.len xs ys);
        len_is = omega (arith, x.len_is, y.len_is, length-append xs ys);
        same = y.same ∙ x.same;
      }

  pub extended_long : length v.slice.now ≡ length u.slice.now
  extended_long = rw x.slice_is (length-sets u.slice.now u.len xs)

-- FROM AN EMPTY LIST
pub extended_taken : {A : Type 0} {v w : SliceVec A} {xs : List A} → v.len ≡ 0 → length xs ≤ length v.slice.now → Extended v xs w →
    take w.len w.slice.now ≡ xs
extended_taken {v = v} {w} {xs} z h x = let n : w.len ≡ length xs = omega (arith, x.len_is, z) in rw (n, x.slice_is, z) (take_sets v.slice.now xs h)

pub extended_lent : {A : Type 0} {slice : MutBor (List A)} {v w : SliceVec A} {xs after : List A} → Begun slice v → Extended v xs w →
    (slice.ghost_name ≡ w.slice.ghost_name → after ≡ w.slice.now) → after ≡ sets slice.now 0 xs
extended_lent b x same = same (sym (x.same ∙ b.same)) ∙ x.slice_is ∙ rw (b.slice_is, b.empty)

-- PART BY PART
pub extending_start : {A : Type 0} (v : SliceVec A) (xs : List A) → Extending v xs v xs
extending_start v xs = record { slice_is = refl; len_is = refl; long = refl; same = refl }

module _ {A : Type 0} {v w : SliceVec A} {xs left : List A} (E : Extending v xs w left) where
  pub extending_next : {w' : SliceVec A} (part : List A) {left' : List A} → left ≡ part ++ left' → Extended w part w' → Extending v xs w' left'
  extending_next part {left'} e x =
      record {
        slice_is = rw (x.slice_is, x.len_is) (sets_append w.slice.now w.len part left' ∙ ap (sets w.slice.now w.len) (sym e) ∙ E.slice_is);
        len_is = omega (arith, x.len_is, E.len_is, ap length e, length-append part left');
        long = extended_long x ∙ E.long;
        same = x.same ∙ E.same;
      }

  pub extending_end : left ≡ [] → Extended v xs w
  extending_end e =
      record {
        slice_is = sym (ap (sets w.slice.now w.len) e) ∙ E.slice_is;
        len_is = omega (arith, E.len_is, ap length e);
        same = E.same;
      }

  pub extending_room : v.len + length xs ≤ length v.slice.now → w.len + length left ≤ length w.slice.now
  extending_room h = omega (arith, E.len_is, E.long)

-- A PART of the slice copied to
pub part_put : {A : Type 0} (l xs : List A) (at : ℕ) → at + length xs ≤ length l → put_mid at (at + length xs - at) l xs ≡ sets l at xs
part_put l xs at h =
    let n : at + length xs - at ≡ length xs = omega arith in
    rw (n, sets-eq xs l at h) (simp (append_assoc, drop-drop))
