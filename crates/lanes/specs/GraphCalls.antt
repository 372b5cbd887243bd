-- What the graph call answers by value, and what is written for an accepted graph (document 01, "The graph", "The barrier" and "Questions put to a
-- call").
--   GraphWritten     some wanted path, or the canonical barrier where there is none, stands at the front of a buffer and is told
--   GraphAnswered    what the call owes, in one record: result and buffer, what it came to, and that its size is small
use Rattle.std.specs.Prelude.{◌≡◌, true, false, Result, Ok, List, ℕ, ◌≤◌, length}
use Rattle.formats.specs.Limits.{room}
use Rattle.formats.specs.Refusals.{value_or}
use Rattle.formats.specs.declared.refusals.Refusal.{Refusal}
use Rattle.counting.specs.Tests.{pick}
use Rattle.skew.specs.Graph.{Graph, is_wanted, has_path, canonical}
use Rattle.files.specs.CertificateFile.{path_text, barrier_text}
use Rattle.lanes.specs.Entry.{Answers, GraphOwes, graph_outcome}
use Rattle.lanes.specs.Calls.{no_answer, told_in, outcome_in}
use Rattle.lanes.specs.declared.Answer.{Answer}
use Rattle.lanes.specs.declared.Outcome.TheVariants.{Path, Barrier}

pub record GraphWritten (g : Graph) (before after : List ℕ) (r : Answer) : Type 0 where
  pub path : has_path g ≡ true → (is : List ℕ) × ((is_wanted g is ≡ true) × Answers (path_text is) before (told_in (Ok r)) after)
  pub barrier : has_path g ≡ false → Answers (barrier_text (canonical g)) before (told_in (Ok r)) after
  pub outcome : r.outcome ≡ pick (has_path g) Path Barrier
  pub small : r.size ≤ room

pub record GraphAnswered (caller : ℕ) (file buffer : List ℕ) (r : Result Answer Refusal) (after : List ℕ) : Type 0 where
  pub owes : GraphOwes caller file buffer (told_in r) after
  pub outcome : outcome_in r ≡ graph_outcome caller file (length buffer)
  pub small : (value_or no_answer r).size ≤ room
