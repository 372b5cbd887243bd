-- Search by search: each so far gave a pair, and is counted.
use Rattle.std.proofs.Common.{◌≡◌}
use Rattle.pairing.specs.Plan.{Improving}
use Rattle.pairing.proofs.plan.run_searches.Given as goal

abbrev pub invariant-loop-found : goal.invariant-loop-found
invariant-loop-found l = Improving l.stock.fits.now l.initial.row l.row l.found × (l.searches ≡ l.found)
