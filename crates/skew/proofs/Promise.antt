-- The promises of the theory, kept.
--   reaches_by_paths     document 03's ReachesByPaths, for a well-formed graph
--   path_or_barrier      document 03's PathOrBarrier, for a well-formed graph (document 000, theorem 2.2)
-- Beside them other crates cite, of a graph without a path: classes_of, entry_one and path_entry of Entries; fit_from_A, fit_from_X and exit_entry of
-- Classes (where an arc out of A or of an Xi may lead).
use Rattle.skew.specs.Graph.{Graph}
use Rattle.skew.specs.Paths.{WellFormed}
use Rattle.skew.specs.Promise.{ReachesByPathsIn, PathOrBarrierIn}
use Rattle.skew.proofs.Reachable.{reachable_by_paths}
use Rattle.skew.proofs.BarrierExcludes.{barrier_excludes}
use Rattle.skew.proofs.Barrier.{no_path_barrier}

pub reaches_by_paths : (g : Graph) → WellFormed g → ReachesByPathsIn g
reaches_by_paths = reachable_by_paths

pub path_or_barrier : (g : Graph) → WellFormed g → PathOrBarrierIn g
path_or_barrier g wf = (no_path_barrier g wf, barrier_excludes g wf)
