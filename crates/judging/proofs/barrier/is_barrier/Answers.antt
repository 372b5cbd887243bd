-- Each question of `is_barrier` in turn; the last by the counters.
use Rattle.std.proofs.Common.{◌∙◌, arith}
use borrow.Author.Tests.{eq-eqb, ne_eqb}
use Rattle.counting.proofs.Booleans.{true_false}
use Rattle.arcs.proofs.Tables.{table_covers}
use Rattle.judging.proofs.Barriers.{entered_counted}
use Rattle.judging.proofs.barrier.is_barrier.Goals as goal
use Rattle.judging.proofs.barrier.is_barrier.Goals.{then-classes-graph-eq-A, else-classes-graph-eq-A, then-mates_agree, else-mates_agree}

pub arcs_fit-requires : goal.arcs_fit-requires
arcs_fit-requires c = rw c.if-classes-graph.false (table_covers c.args.graph.now.is_table)

pub count_entries-requires-clause-covers : goal.count_entries-requires-clause-covers
count_entries-requires-clause-covers c = rw c.if-classes-graph.false (table_covers c.args.graph.now.is_table)

pub returns-then-arcs_fit : goal.returns-then-arcs_fit
returns-then-arcs_fit c =
    let sized = c.if-classes-graph.false in
    elim c.if-mates_agree.branch [
      | then-mates_agree w ↦ elim c.if-classes-graph-eq-A.branch [
        | then-classes-graph-eq-A v ↦
            rw (eq-eqb _ _ sized, eq-eqb _ _ v.if-classes-graph-eq-A.true, ← sized, ← v.mates_agree.ensures, ← v.value-is, w.if-mates_agree.true, ← w.arcs_fit.ensures, ← w.value-is, c.if-arcs_fit.true, ← c.largest_class.ensures)
            (c.all_entered.ensures ∙ entered_counted c.count_entries.result _ _ _ (omega (arith, c.largest_class.type_inv)) c.count_entries.ensures)
        | else-classes-graph-eq-A v ↦ true_false w.if-mates_agree.true (v.value-is ∙ ne_eqb _ _ v.if-classes-graph-eq-A.false)
      ]
      | else-mates_agree w ↦ true_false c.if-arcs_fit.true (w.value-is ∙ w.if-mates_agree.false)
    ]
