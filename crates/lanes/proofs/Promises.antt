-- The promises, kept for every file.
--   refusals_leave                                 demand 1
--   reaches_by_paths, path_or_barrier              demand 2
--   greatest_is, marks_are                         demand 3
--   one_mark, marks_kept                           and what it says of the marks
use mathlib.Core.Path.{◌≡◌, refl, sym, ap, ◌∙◌}
use mathlib.Core.Bool.{false}
use Prim.Native.Nat.{ℕ}
use native.Mathlib.Omega.{arith}
use lib.Dec.{eqb}
use borrow.Author.Tests.{eq-eqb, eqb-true}
use Rattle.counting.proofs.Booleans.{and_both, and_two}
use Rattle.skew.specs.Graph.{mate, is_regular}
use Rattle.skew.proofs.Promise as skew
use Rattle.matching.specs.Stock.{mark_of}
use Rattle.matching.proofs.Marks.{mark_low, mark_with_fit, mark_without_fit, mark_kept}
use Rattle.matching.proofs.Promises as matching
use Rattle.matching.proofs.Promises.{well_formed_fits}
use Rattle.files.specs.GraphFile.{graph_in}
use Rattle.files.specs.StockFile.{stock_in}
use Rattle.lanes.specs.Promise.{RefusalsLeave, ReachesByPaths, PathOrBarrier, GreatestIs, MarksAre, OneMark, MarksKept}
use Rattle.lanes.specs.Entry.{told, Told, SearchedTold}
use Rattle.files.proofs.AcceptedFiles.{accepted_graph, accepted_stock}

-- DEMAND 1
refused : {n : ℕ} {r : Told} → eqb n 0 ≡ false → r ≡ told n 0 → (r.number ≡ n) × (r.size ≡ 0)
refused {n} z e = (ap (λ (x : Told). x.number) e, ap (λ (x : Told). x.size) e ∙ rw z)

pub refusals_leave : RefusalsLeave
refusals_leave = (
  λ c f o v r z h. let q = h.0 z in let e = refused z q.0 in (e.0, e.1, q.1),
  λ c f o v r z h. let q = h.0 z in let e = refused z q.0 in (e.0, e.1, q.1),
  λ c b f o v r z h.
      let q = h.0 z in
      let e = refused z (ap (λ (x : SearchedTold). x.told) q.0) in
      (e.0, e.1, ap (λ (x : SearchedTold). x.searches) q.0 ∙ rw z, q.1),
)

-- DEMANDS 2 AND 3
pub reaches_by_paths : ReachesByPaths
reaches_by_paths f w e = skew.reaches_by_paths (graph_in f) (accepted_graph f e) w

pub path_or_barrier : PathOrBarrier
path_or_barrier f e =
    let g = graph_in f in
    let r = skew.path_or_barrier g (accepted_graph f e) in
    let t = reaches_by_paths f (mate g.source) e in (
      r.0,
      r.1,
      (
        λ h. let p = t.0 h in (p.0, and_both _ _ p.1.0 (eq-eqb _ _ p.1.1)),
        λ p. let w = and_two (is_regular g p.0) _ p.1 in t.1 (p.0, (w.0, eqb-true _ _ w.1)),
      ),
    )

pub greatest_is : GreatestIs
greatest_is f ps e = matching.greatest_is (stock_in f) ps (accepted_stock f e)

pub marks_are : MarksAre
marks_are f u m e h = matching.marks_are (stock_in f) u m (accepted_stock f e) h

pub one_mark : OneMark
one_mark f u e h =
    let m = mark_of (stock_in f).fits u in
    (m, (mark_low (stock_in f).fits u, (marks_are f u m e h).0 refl, λ k r. sym ((marks_are f u k e h).1 r)))

pub marks_kept : MarksKept
marks_kept f u e h =
    let n = (stock_in f).cameras in
    let fs = (stock_in f).fits in
    let F = well_formed_fits (stock_in f) (accepted_stock f e) in (
      mark_with_fit fs u,
      λ i. (mark_without_fit n fs F u i).1,
      mark_kept n fs F u 1 (omega arith) (omega arith),
      mark_kept n fs F u 2 (omega arith) (omega arith),
    )
