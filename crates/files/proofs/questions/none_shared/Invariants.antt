-- `files::questions::none_shared` meets its contract: what is asked of the whole is what is asked from the pair at hand on.
use Rattle.std.proofs.Common.{◌≡◌, length, drop}
use Rattle.matching.specs.Stock.{none_shared}
use Rattle.files.proofs.SharedCameras.{shares_none}
use Rattle.files.proofs.questions.none_shared.Given as goal

abbrev pub invariant-loop-pair : goal.invariant-loop-pair
invariant-loop-pair l = (length l.flags ≡ 256) × (none_shared l.pairs ≡ shares_none l.flags (drop l.pair-index l.pairs))
