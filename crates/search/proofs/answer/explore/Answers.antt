-- The fronts of the local tables are lent. The source's mate is reached and the path restored, or the labels show that there is no path.
use Rattle.std.proofs.Common.{refl, rules}
use Rattle.search.proofs.Answers.{fronts_blank, restorable, path_written, exhausted}
use Rattle.search.proofs.answer.explore.Goals as goal

pub search-found-requires : goal.search-found-requires
search-found-requires g c = fronts_blank c.args.graph.now.is_table.pairs_few c.new.ensures.slice_is c.new.ensures.empty

pub restore-requires : goal.restore-requires
restore-requires g c = restorable c.search-found.ensures c.if-found.true c.mate_of-goal.ensures c.new-arcs.ensures c.requires.path_len

pub reason-requires : goal.reason-requires
reason-requires g c = c.requires.reason _ (exhausted c.search-found.ensures c.if-found.false) _ refl

pub returns-then-found : goal.returns-then-found
returns-then-found g c = (path_written c.search-found.ensures c.if-found.true c.mate_of-goal.ensures c.new-arcs.ensures c.restore.ensures (search rules), refl)

pub returns : goal.returns
returns g c = let B = exhausted c.search-found.ensures c.if-found.false in search rules
