-- The invariant: part of the run is passed, and the slice is filled so far.
use mathlib.Core.Path.{◌≡◌}
use Rattle.frames.proofs.Stores.{Passing, Filling}
use Rattle.frames.proofs.store.store_by.Given as goal

abbrev pub invariant-loop-line : goal.invariant-loop-line
invariant-loop-line g l =
    (l.line-iterator.file.now ≡ l.g) × Passing l.kind l.g l.at l.line-iterator.at l.stored.len ×
    Filling g.T.From.from_gives l.kind l.g l.at l.initial.stored l.line-iterator.at l.stored
