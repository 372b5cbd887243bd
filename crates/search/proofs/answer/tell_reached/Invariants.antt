-- The flags of the nodes before v are told.
use Rattle.std.proofs.Common.{◌≡◌, ℕ, ◌<◌, ltb, false, get_or}
use Rattle.search.proofs.answer.tell_reached.Given as goal

abbrev pub invariant-loop-v : goal.invariant-loop-v
invariant-loop-v l = (u : ℕ) → u < l.v → get_or l.reached u false ≡ ltb 0 (get_or l.labels.birth.now u 0)
