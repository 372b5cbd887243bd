use mathlib.Core.Path.{refl}
use Rattle.kept.proofs.PairColumns.{putting_next, putting_end}
use Rattle.kept.proofs.columns.Columns.put.Goals as goal

pub loop-i-preserved : goal.loop-i-preserved
loop-i-preserved c = putting_next c.loop-i.invariant _ c.loop-i-test.true c.requires refl

pub returns : goal.returns
returns c = putting_end c.loop-i.invariant c.loop-i-test.false
