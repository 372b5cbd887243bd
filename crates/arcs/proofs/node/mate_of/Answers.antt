-- `mate_of` flips the lowest bit.
use Prim.Native.Nat.{◌%◌}
use borrow.Author.Tests.{eq-eqb, ne_eqb}
use Rattle.arcs.proofs.node.mate_of.Goals as goal

pub returns-then-v-eq0 : goal.returns-then-v-eq0
returns-then-v-eq0 c =
    let args = c.args in
    rw (eq-eqb (args.v % 2) 0 c.if-v-eq0.true)

pub returns-else-v-eq0 : goal.returns-else-v-eq0
returns-else-v-eq0 c =
    let args = c.args in
    rw (ne_eqb (args.v % 2) 0 c.if-v-eq0.false)
