-- `kept::columns::Columns::put` meets its contract: with the pairs that are left, all of them stand in the columns.
use Rattle.kept.proofs.PairColumns.{Putting}
use Rattle.kept.proofs.columns.Columns.put.Given as goal

abbrev pub invariant-loop-i : goal.invariant-loop-i
invariant-loop-i l = Putting l.initial.state l.self.at l.self.most l.pairs l.state l.i
