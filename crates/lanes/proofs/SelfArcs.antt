-- The calls that read a graph, where an arc may lead from a node to itself (document 02, L5).
--   calls_as_before    without such an arc
--   calls_refuse       with one
use mathlib.Core.Path.{◌≡◌, ap, sym}
use Prim.Native.Nat.{ℕ}
use lib.ListN.{length}
use borrow.Author.Tests.{eqb-false}
use Rattle.frames.specs.Frames.{or_else}
use Rattle.files.specs.GraphFile.{graph_in, graph_fault, basic_graph_fault}
use Rattle.files.specs.CertificateFile.{cert_fault}
use Rattle.files.specs.SelfArcs.{self_arc_fault}
use Rattle.files.proofs.SelfArcs.{others_as_before, self_arcs_refused, self_arc_fault_some}
use Rattle.lanes.specs.Entry.{call_fault}
use Rattle.lanes.specs.Verdicts.{cert_number}
use Rattle.lanes.specs.SelfArcs.{CallsAsBefore, CallsRefuse}
use Rattle.lanes.proofs.CallFaults.{call_some}
use Rattle.lanes.proofs.Checks.{check_refused}

pub calls_as_before : CallsAsBefore
calls_as_before f none =
    let e = others_as_before f none in
    (λ c n. ap (call_fault c n) e, λ k. ap (λ (n : ℕ). or_else n (cert_number (cert_fault (graph_in f) k))) e)

pub calls_refuse : CallsRefuse
calls_refuse f s =
    let n = self_arc_fault (basic_graph_fault f) in
    let e : graph_fault f ≡ n = self_arcs_refused f s in
    let no = self_arc_fault_some (basic_graph_fault f) in (
      λ c o v r owes. rw e at (owes.0 (rw e (call_some c (length o) n no))),
      λ c k t. rw (e, call_some c k n no),
      λ k. sym (check_refused f k (sym e) (eqb-false n 0 no)),
    )
