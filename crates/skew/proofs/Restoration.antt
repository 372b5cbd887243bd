-- Where the source's mate is reached, the labels give a wanted path (document 000, lemma 2.5).
--   restored_path      that path; it is the one that the labels' recursion writes
use mathlib.Core.Path.{◌≡◌, subst, ◌∙◌}
use mathlib.Core.Bool.{true}
use mathlib.Core.List.{List}
use Prim.Native.Nat.{ℕ}
use borrow.Author.Tests.{eq-eqb}
use Rattle.skew.specs.Graph.{Graph, mate, is_regular, is_wanted}
use Rattle.skew.specs.Paths.{WellFormed}
use Rattle.skew.specs.Segments.{Seg, LabelledPath}
use Rattle.skew.specs.Search.{State, InFragment, Invariant}
use Rattle.counting.proofs.Booleans.{and_both}
use Rattle.skew.proofs.Paths.{path_regular}

pub restored_path : (g : Graph) (wf : WellFormed g) (st : State) → Invariant g st → st.reached (mate g.source) ≡ true →
    (p : List ℕ) × Seg g st.reached st.via g.source (mate g.source) p × (is_wanted g p ≡ true)
restored_path g wf st I l =
    let s = g.source in
    let b : st.base (mate s) ≡ s = I.base_mate s ∙ I.source_base in
    let r = subst (λ (y : ℕ). LabelledPath g (InFragment st y) st.reached st.via y (mate s)) b (I.path (mate s) l) in
    let w = path_regular g (InFragment st s) (mate s) r.0 r.1 in
    (r.0, r.2, and_both (is_regular g r.0) _ w.0 (eq-eqb _ _ w.1))
