-- Bytes that a reader gave, read after read.
--   consumes_then      one read's bytes, and then another's
--   take_further       the front of a buffer is longer by what was read behind it
use mathlib.Core.Path.{◌≡◌, ap, sym, ◌∙◌}
use mathlib.Core.List.{List, ◌++◌, append_assoc}
use Prim.Native.Nat.{ℕ, ◌+◌, ◌≤◌}
use borrow.Rule.Slice.PartMut.{put_mid, post_of}
use lib.ListN.{length, take}
use Rattle.std.specs.Prelude.{Option, None, Some}
use Rattle.std.specs.Io.KnownBytes.{Consumes}
use Rattle.std.proofs.lemmas.List.{take-append-le}
use Rattle.std.proofs.Math.Seq.{take-append-add}
use lib.Seq.{length-take-le}

pub consumes_then : (a b c : Option (List ℕ)) (xs ys : List ℕ) → Consumes a b xs → Consumes b c ys → Consumes a c (xs ++ ys)
consumes_then None b c xs ys p q = tt
consumes_then (Some us) None c xs ys p q = absurd p
consumes_then (Some us) (Some vs) None xs ys p q = absurd q
consumes_then (Some us) (Some vs) (Some ws) xs ys p q = p ∙ ap (λ (l : List ℕ). xs ++ l) q ∙ sym (append_assoc xs ys ws)

pub take_further : (a k n : ℕ) (xs ys : List ℕ) → a ≤ length xs → n ≤ length ys → take (a + n) (put_mid a k xs ys) ≡ take a xs ++ take n ys
take_further a k n xs ys h l =
    let e : length (take a xs) ≡ a = length-take-le a xs h in
    (rw e at (take-append-add (take a xs) (ys ++ post_of a k xs) n)) ∙ ap (λ (m : List ℕ). take a xs ++ m) (take-append-le n ys _ l)
