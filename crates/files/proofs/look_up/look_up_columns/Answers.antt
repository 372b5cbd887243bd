use Rattle.std.proofs.Common.{◌≡◌, ◌≤◌, ◌<◌, ◌∙◌, sym, arith, length, get_or, inl, inr}
use borrow.Author.Tests.{eq-eqb, ne_eqb, eqb-true, leb-true, leb-false, not-false}
use Rattle.counting.specs.Pairs.{pair, zip_pairs}
use Rattle.matching.specs.Stock.{same_pair}
use Rattle.files.proofs.PairScans.{passed_next, end_by, ended_at, all_passed}
use Rattle.counting.proofs.Zips.{zip_within}
use Rattle.files.proofs.Tables.{zip_least}
use Rattle.files.proofs.look_up.look_up_columns.Goals as goal
use Rattle.files.proofs.look_up.look_up_columns.Goals.{In-loop-i, then-pair-firsts-2, else-pair-firsts-2, then-firsts-i, else-firsts-i, else-pair-firsts-via-then-pair-firsts+else-pair-seconds, else-pair-firsts-via-else-pair-firsts}

below : (c : In-loop-i) → c.loop-i.i < length (zip_pairs c.args.firsts.now c.args.seconds.now)
below c = omega (arith, zip_least c.args.firsts.now c.args.seconds.now, c.min-count.ensures, c.loop-i-test.true)

pub returns-then-pair-seconds : goal.returns-then-pair-seconds
returns-then-pair-seconds c =
    let fs = zip_pairs c.args.firsts.now c.args.seconds.now in
    let h = below (goal.at.returns-then-pair-seconds c).In-loop-i in
    let fit = zip_within c.args.firsts.now c.args.seconds.now c.loop-i.i h in
    let y = pair (get_or c.args.firsts.now c.loop-i.i 0) (get_or c.args.seconds.now c.loop-i.i 0) in
    let second : c.args.pair.first ≡ y.first → c.args.pair.second ≤ y.second =
    λ e.
    elim c.if-pair-firsts-2.branch [
      | then-pair-firsts-2 w ↦ absurd (w.if-pair-firsts-2.true e)
      | else-pair-firsts-2 w ↦ leb-true _ _ (sym w.value-is ∙ c.if-pair-seconds.true)
    ] in
    let found : c.if-firsts-i.result ≡ same_pair y c.args.pair =
    elim c.if-firsts-i.branch [
      | then-firsts-i w ↦ rw (eq-eqb y.first c.args.pair.first w.if-firsts-i.true) w.result-is
      | else-firsts-i w ↦ let e = ne_eqb y.first c.args.pair.first w.if-firsts-i.false in rw e (w.result-is ∙ e)
    ] in
    ended_at fs c.args.pair c.loop-i.i h c.loop-i.invariant (rw fit (end_by fs c.args.pair y c.if-pair-firsts.true second)) (rw fit found)

pub loop-i-preserved : goal.loop-i-preserved
loop-i-preserved c =
    let fs = zip_pairs c.args.firsts.now c.args.seconds.now in
    let h = below (goal.at.loop-i-preserved c).In-loop-i in
    let fit = zip_within c.args.firsts.now c.args.seconds.now c.loop-i.i h in
    passed_next fs c.args.pair c.loop-i.i c.loop-i.invariant
    (rw fit
    (elim c.else-pair-firsts.branch [
      | else-pair-firsts-via-else-pair-firsts w ↦ inl w.if-pair-firsts.false
      | else-pair-firsts-via-then-pair-firsts+else-pair-seconds w ↦
          (elim w.if-pair-firsts-2.branch [
            | then-pair-firsts-2 v ↦ absurd (v.if-pair-firsts-2.true (eqb-true _ _ (not-false _ (sym v.value-is ∙ w.if-pair-seconds.false))))
            | else-pair-firsts-2 v ↦ inr (sym v.if-pair-firsts-2.false, leb-false _ _ (sym v.value-is ∙ w.if-pair-seconds.false))
          ])
    ]))

pub returns : goal.returns
returns c =
    let fs = zip_pairs c.args.firsts.now c.args.seconds.now in
    let n : length fs ≡ c.min-count.result = zip_least c.args.firsts.now c.args.seconds.now ∙ sym c.min-count.ensures in
    rw n at (all_passed fs c.args.pair (λ k h. c.loop-i.invariant k (omega (arith, n, c.loop-i-test.false))))
