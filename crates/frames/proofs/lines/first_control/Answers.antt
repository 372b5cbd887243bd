-- `frames::lines::first_control` meets its contract: the place of the first that is one, or how many bytes are left.
use mathlib.Core.Path.{◌≡◌, refl, ap, sym, ◌∙◌}
use Prim.Native.Nat.{ℕ, ◌+◌, ◌≤◌, ◌<◌}
use lib.ListN.{length}
use borrow.Author.Tests.{tests}
use Rattle.std.proofs.Common.{rules, unwrap_or}
use Rattle.std.proofs.lemmas.Iterator.{YieldsList-from_slice, IsFirst-from_position, index_from_first}
use Rattle.frames.specs.Lines.{part, control_at}
use Rattle.frames.proofs.LinePlaces.{part_tail, control_here, control_next}
use Rattle.frames.proofs.lines.first_control.Goals as goal

pub returns : goal.returns
unfolding control_at
returns c =
    let f = c.args.f.now in
    let s = part c.args.at (length f) f in
    let e : control_at s ≡ unwrap_or c.position.result (length s) =
    index_from_first control_at (λ (x : ℕ). x < 32) (λ (x : ℕ). 32 ≤ x) refl control_here control_next s _
    (IsFirst-from_position _ _ _ (λ (x : ℕ). x < 32) (λ (x : ℕ). 32 ≤ x) c.position.ensures.ran (YieldsList-from_slice s cc)
    (λ x q k. search (rules, tests)) (λ x q k. search (rules, tests))) in
    ap (λ (i : ℕ). c.args.at + i) (c.unwrap_or.ensures ∙ sym e ∙ ap control_at (part_tail c.args.at f))
