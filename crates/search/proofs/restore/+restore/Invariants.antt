-- The birth number falls at each inner call.
use Rattle.std.proofs.Common.{get_or}
use Rattle.search.proofs.restore.+restore.Given as goal

abbrev pub decreases-restore : goal.decreases-restore
decreases-restore l = get_or l.labels.now.birth.now l.v 0
