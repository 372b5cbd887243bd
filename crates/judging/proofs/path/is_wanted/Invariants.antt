-- Arc by arc: the nodes seen and the arcs used stand in the two tables.
use Rattle.judging.specs.Walks.{Walking}
use Rattle.judging.proofs.path.is_wanted.Given as goal

abbrev pub invariant-loop-k : goal.invariant-loop-k
invariant-loop-k l = Walking l.source l.arcs l.path l.k-index l.at l.seen l.used
