use Rattle.std.proofs.Common.{refl}
use Rattle.pairing.proofs.SearchRuns.{improving_start}
use Rattle.pairing.proofs.plan.run_searches.Goals as goal

pub loop-found-init : goal.loop-found-init
loop-found-init c = (improving_start c.args.stock.now.is_table c.row_of.ensures, refl)
