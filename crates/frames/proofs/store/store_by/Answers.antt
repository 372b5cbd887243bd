use mathlib.Core.Path.{◌≡◌, refl, ap, sym, ◌∙◌}
use Rattle.std.proofs.Common.{rules}
use native.Mathlib.Omega.{arith}
use lib.ListN.{length}
use Rattle.frames.specs.Frames.{hex_at}
use Rattle.frames.specs.Lines.{LineAt}
use Rattle.frames.proofs.LinePlaces.{line_taken, file_kept}
use Rattle.frames.proofs.Stores.{Passing, Filling, LineNumbers, line_numbers, passing_room, passing_next, filling_next, stopped_other, stopped_over, stored}
use Rattle.frames.proofs.store.store_by.Goals as goal
use Rattle.frames.proofs.store.store_by.Given.{Over}
use Rattle.frames.proofs.store.store_by.Goals.{In-Some, Else-number_at-kind}

-- the line that is taken, and the run up to it
line : (g : Over) (c : In-Some g) → let l = c.in-Some.line in LineAt c.args.g.now l.at l.end l.next
line g c = line_taken c.loop-line.invariant.0 c.in-Some.ensures.steps

passed : (g : Over) (c : In-Some g) → Passing c.args.kind c.args.g.now c.args.at c.in-Some.line.at c.loop-line.stored.len
passed g c = rw c.in-Some.ensures.steps.0 c.loop-line.invariant.1

filled : (g : Over) (c : In-Some g) →
    Filling g.T.From.from_gives c.args.kind c.args.g.now c.args.at c.new-stored.result c.in-Some.line.at c.loop-line.stored
filled g c = rw c.in-Some.ensures.steps.0 c.loop-line.invariant.2

reads : (g : Over) (c : In-Some g) → LineNumbers c.args.g.now c.in-Some.line.at c.in-Some.line.end
reads g c = line_numbers (line g c) (passed g c)

is_of_kind : (g : Over) (c : Else-number_at-kind g) → hex_at c.in-Some.line.at 2 c.args.g.now ≡ c.args.kind
is_of_kind g c = sym c.number_at.ensures.is ∙ c.if-number_at-kind.false

pub number_at-requires-clause-inside : goal.number_at-requires-clause-inside
number_at-requires-clause-inside g c = omega (arith, reads g (goal.at.number_at-requires-clause-inside g c).In-Some)

pub number_at-first-requires-clause-inside : goal.number_at-first-requires-clause-inside
number_at-first-requires-clause-inside g c = omega (arith, reads g (goal.at.number_at-first-requires-clause-inside g c).In-Some)

pub overflow_cast-first : goal.overflow_cast-first
overflow_cast-first g c = omega (arith, reads g (goal.at.overflow_cast-first g c).In-Some)

pub number_at-second-requires-clause-inside : goal.number_at-second-requires-clause-inside
number_at-second-requires-clause-inside g c = omega (arith, reads g (goal.at.number_at-second-requires-clause-inside g c).In-Some)

pub overflow_cast-second : goal.overflow_cast-second
overflow_cast-second g c = omega (arith, reads g (goal.at.overflow_cast-second g c).In-Some)

pub push-requires : goal.push-requires
push-requires g c =
    let s = (goal.at.push-requires g c).In-Some in
    let n = passing_room (line g s) (passed g s) (is_of_kind g (goal.at.push-requires g c).Else-number_at-kind) in
    omega (arith, n, c.loop-line.invariant.2.long, ap length c.new-stored.ensures.slice_is, c.requires.1)

pub loop-line-preserved : goal.loop-line-preserved
loop-line-preserved g c =
    let s = (goal.at.loop-line-preserved g c).In-Some in
    let t = c.in-Some.ensures.steps in
    let e = is_of_kind g (goal.at.loop-line-preserved g c).Else-number_at-kind in
    let gives = rw (c.number_at-first.ensures.is, c.number_at-second.ensures.is) at c.from.ensures in (
      file_kept c.loop-line.invariant.0 t,
      rw (t.2, c.push.ensures.len_is) (passing_next (line g s) (passed g s) e),
      rw t.2 (filling_next (line g s) (passed g s) e (filled g s) refl gives c.push.ensures),
    )

-- at the two returns, last: what the slice that was lent holds then is what the list's slice held
pub returns-then-number_at-kind-clause-stored : goal.returns-then-number_at-kind-clause-stored
returns-then-number_at-kind-clause-stored g c =
    let s = (goal.at.returns-then-number_at-kind-clause-stored g c).In-Some in
    let stop = stopped_other (line g s) (passed g s) (λ e. c.if-number_at-kind.true (c.number_at.ensures.is ∙ e)) in
    stored (passed g s) stop c.new-stored.ensures (filled g s) refl c.requires.1 (search rules)

pub returns-clause-stored : goal.returns-clause-stored
returns-clause-stored g c =
    let v = c.loop-line.invariant in
    let over = rw v.0 at c.in-None.ensures.steps in
    let e : c.loop-line.line-iterator.at ≡ length c.args.g.now = omega (arith, over, v.1.left.inside) in
    stored (rw e at v.1) (stopped_over _ c.args.g.now _ (omega arith)) c.new-stored.ensures (rw e at v.2) refl c.requires.1 (search rules)
