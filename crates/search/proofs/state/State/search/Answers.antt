use mathlib.Core.Path.{sym}
use Rattle.search.proofs.Searches.{search_starts, scan_begins, ends_closed}
use Rattle.search.proofs.state.State.search.Goals as goal

pub loop-self-init : goal.loop-self-init
loop-self-init c = (search_starts c.args.graph.now.is_table c.requires c.start.ensures, c.mate_of-goal.ensures)

pub returns-in_default : goal.returns-in_default
returns-in_default c =
    let E = c.in_default.ensures in ends_closed c.loop-self.invariant.0 c.loop-self.invariant.1 (sym c.loop-self-test.ensures) E.0

pub scan-requires : goal.scan-requires
scan-requires c = let E = c.in-Some.ensures in scan_begins c.loop-self.invariant.0 E
