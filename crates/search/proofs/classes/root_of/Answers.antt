use mathlib.Core.Path.{sym}
use Rattle.search.proofs.Roots.{root_ascent_start, root_ascent_next, root_ascent_end}
use Rattle.search.proofs.classes.root_of.Goals as goal

pub loop-v-init : goal.loop-v-init
loop-v-init c = root_ascent_start c.requires

pub returns-then-not-is_reached : goal.returns-then-not-is_reached
returns-then-not-is_reached c =
    root_ascent_end c.loop-v.invariant (rw (c.mate_of-outside.ensures, c.from-x.ensures) at (sym c.if-not-is_reached.ensures))

pub loop-v-preserved : goal.loop-v-preserved
loop-v-preserved c =
    let ex = c.from-x.ensures in
    let em = c.mate_of-outside.ensures in
    rw ex (root_ascent_next c.loop-v.invariant (rw (em, ex) at (sym c.if-not-is_reached.ensures)))
