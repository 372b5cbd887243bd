-- `kept::slots::put_pairs` meets its contract.
use native.Mathlib.Omega.{arith}
use Rattle.kept.proofs.Fillings.{pairs_put}
use Rattle.kept.proofs.slots.put_pairs.Goals as goal

pub returns : goal.returns
returns c =
    let a = c.args in
    let columns = rw (c.pairs.ensures.at, c.pairs.ensures.most) at c.put.ensures in
    pairs_put a.state.now a.to.number a.name a.pairs.now (rw c.at.ensures at c.put_bytes.ensures) columns (omega arith) (omega arith) c.requires
