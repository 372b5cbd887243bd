-- Pairings kept under names, by examples, by computing.
--   known_kept    KnownKept
use mathlib.Core.Path.{refl}
use Rattle.counting.specs.Tests.{all, any, keep}
use Rattle.frames.specs.Frames.{lines_of, ends_whole, hex_from, hex_bytes, later_fit, bodies_fit, pairs_in}
use Rattle.frames.specs.EitherEnd.{returns_from}
use Rattle.matching.specs.Stock.{has_pair, none_shared, pairs_rise}
use Rattle.matching.specs.LookUp.{looked_at}
use Rattle.files.specs.StockFile.{plan_lines}
use Rattle.kept.specs.State.{pairs_under, after_calls}
use Rattle.kept.specs.Promise.{is_quiet}
use Rattle.kept.specs.Known.{until_kept, since_then, KnownKept}

pub known_kept : KnownKept
unfolding all any keep lines_of ends_whole hex_from hex_bytes later_fit bodies_fit pairs_in returns_from has_pair none_shared pairs_rise looked_at plan_lines pairs_under after_calls is_quiet
known_kept = (
  refl,
  refl,
  refl,
  refl,
  refl,
  refl,
  refl,
  refl,
  refl,
  refl,
  refl,
  refl,
  refl,
  refl,
  record { before = until_kept; later = since_then; calls = refl; accepted = refl; quiet = refl },
  refl,
  refl,
  refl,
  refl,
  refl,
  refl,
  refl,
  refl,
  refl,
)
