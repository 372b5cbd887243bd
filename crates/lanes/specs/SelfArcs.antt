-- What is promised of the calls that read a graph, where an arc may lead from a node to itself (document 02, L5).
--   CallsAsBefore  without such an arc the graph call and the check refuse what document 03's questions do, with the same number
--   CallsRefuse    with one, both refuse, whatever buffer or certificate they are handed: the call with 17, 1 or the number
--                  of files/specs/SelfArcs, leaving the buffer as it was and counting a refusal of its caller's, if there is such a one, the check with
--                  that number, to which no 40 is added
use Rattle.std.specs.Prelude.{◌≡◌, List, ℕ, length}
use Rattle.frames.specs.Frames.{or_else}
use Rattle.files.specs.GraphFile.{graph_in, basic_graph_fault}
use Rattle.files.specs.CertificateFile.{cert_fault}
use Rattle.files.specs.SelfArcs.{SelfArc, self_arc_fault}
use Rattle.lanes.specs.Entry.{call_fault, answer_fault, told, GraphOwes, check_fault, check_post, Told, Refused}
use Rattle.lanes.specs.Tallies.{call, graph, tallied, tally_after}
use Rattle.lanes.specs.Verdicts.{cert_number}
use Rattle.lanes.specs.declared.Tally.{Tally}
use Rattle.lanes.specs.declared.Outcome.TheVariants.{Refusal}

abbrev pub CallsAsBefore : Type 0
CallsAsBefore =
    (f : List ℕ) → (SelfArc (graph_in f) → ⊥) →
    ((c n : ℕ) → answer_fault c f n ≡ call_fault c n (basic_graph_fault f)) ×
    ((k : List ℕ) → check_fault f k ≡ or_else (basic_graph_fault f) (cert_number (cert_fault (graph_in f) k)))

abbrev pub CallsRefuse : Type 0
CallsRefuse =
    (f : List ℕ) → SelfArc (graph_in f) →
    ((c : ℕ) (o v : List ℕ) (r : Told) → GraphOwes c f o r v →
    (r ≡ told (call_fault c (length o) (self_arc_fault (basic_graph_fault f))) 0) × (v ≡ o)) ×
    ((c n : ℕ) (t : Tally) → tally_after t (call c graph f n) ≡ tallied t c Refusal) ×
    ((k : List ℕ) → check_post f k ≡ Refused (self_arc_fault (basic_graph_fault f)))
