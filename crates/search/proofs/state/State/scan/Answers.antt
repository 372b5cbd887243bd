use mathlib.Core.Path.{sym, ◌∙◌}
use native.Mathlib.Omega.{arith}
use Rattle.search.proofs.Searches.{scan_at, scan_looks, scan_next, scan_ends}
use Rattle.search.proofs.state.State.scan.Goals as goal
use Rattle.search.proofs.state.State.scan.Goals.{then-from-x, else-from-x}

pub look-requires : goal.look-requires
look-requires c = scan_at c.loop-i.invariant.0 c.loop-i-test.true (sym c.from.ensures ∙ c.if-from-x.true)

pub loop-i-preserved : goal.loop-i-preserved
loop-i-preserved c =
    let S = c.loop-i.invariant in
    elim c.if-from-x.branch [
      | then-from-x w ↦ rw w.self-is (scan_looks S.0 w.look.ensures, w.look.ensures.enqueued.taken_same ∙ S.1)
      | else-from-x w ↦
          rw w.self-is
          (scan_next S.0 c.loop-i-test.true (λ e. w.if-from-x.false (c.from.ensures ∙ e)), S.1)
    ]

pub returns : goal.returns
returns c = record { searching = scan_ends c.loop-i.invariant.0 (omega arith); taken = c.loop-i.invariant.1 }
