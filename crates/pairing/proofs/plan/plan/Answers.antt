-- The last search and the fits tell the marks.
use Rattle.pairing.specs.Plan.{Found}
use Rattle.pairing.specs.declared.plan.PairsFound.{PairsFound}
use Rattle.pairing.proofs.SearchRuns.{enough_searches, plan_marked}
use Rattle.pairing.proofs.plan.plan.Goals as goal

pub returns : goal.returns
returns c =
    let T = c.args.stock.now.is_table in
    let found : PairsFound = record { pairs = c.list_pairs.result; ending = c.run_searches.result } in
    let listed : Found _ _ _ _ _ found = record { row = _; ran = c.run_searches.ensures; written = c.list_pairs.ensures } in
    plan_marked T listed (enough_searches _ T.well_formed T.cameras_few) c.args.marks.now c.requires.marks_len c.marks_of.ensures
