-- A closed state reaches exactly the reachable nodes, where it does not reach the source's mate (EXACT; document 000, lemma 2.6).
--   reached_reachable       every reached node is reachable
--   reached_node            and a node of the graph
--   reachable_reached       every reachable node is reached
--   reachable_is            both
use mathlib.Core.Path.{◌≡◌, sym, ap, subst, ◌∙◌}
use mathlib.Core.Logic.{inl, inr, ⊎_elim}
use mathlib.Core.Bool.{true, false}
use mathlib.Core.List.{List, ◌∷◌}
use Prim.Native.Nat.{ℕ, ◌<◌}
use lib.ListN.{length}
use Rattle.counting.specs.Lists.{In}
use Rattle.skew.specs.Graph.{Graph, mate, nodes, end_of, is_reachable}
use Rattle.skew.specs.Paths.{tail, head, WellFormed}
use Rattle.skew.specs.Search.{State, Invariant}
use Rattle.skew.specs.Steps.{SettledKind, within, enters, leaves, Closed}
use Rattle.counting.proofs.Booleans.{test_same, by_test, true_false}
use Rattle.skew.proofs.Mates.{mate_mate}
use Rattle.skew.proofs.Paths.{regular_path, path_regular, joins_end, nodes_within}
use Rattle.skew.proofs.RegularPaths.{along_path}
use Rattle.skew.proofs.Reachable.{reachable_by_paths}
use Rattle.skew.proofs.SourcePaths.{source_path}
use Rattle.skew.proofs.Settled.{settled_kind}

module _ (g : Graph) (wf : WellFormed g) (st : State) (I : Invariant g st) where
  pub reached_reachable : (u : ℕ) → st.reached u ≡ true → is_reachable g u ≡ true
  reached_reachable u l =
      let r = source_path g wf.symmetric st I u l in
      (reachable_by_paths g wf u).1 (r.0, path_regular g _ u r.0 r.1)

  pub reached_node : (u : ℕ) → st.reached u ≡ true → u < nodes g
  reached_node u l =
      let r = source_path g wf.symmetric st I u l in
      nodes_within g (nodes g) g.source u r.0 wf.head_node wf.source_node r.1.joins u
      (joins_end g g.source u r.0 r.1.joins)

module _ (g : Graph) (wf : WellFormed g) (st : State) (I : Invariant g st) (K : Closed g st)
    (shut : st.reached (mate g.source) ≡ false) where
  -- a regular path stands at a reached node; in a bud it has come over the bud's base arc (INSIDE), whose mate is not to come
  record Stands (v : ℕ) (p : List ℕ) : Type 0 where
    pub reached : st.reached v ≡ true
    pub entered : st.reached (mate v) ≡ true → In (mate (st.via (st.base v))) p → ⊥

  move : (i : ℕ) (is : List ℕ) → i < length g.arcs → (In (mate i) is → ⊥) → Stands (tail g i) (i ∷ is) → Stands (head g i) is
  move i is h free S =
      by_test (st.reached (mate y))
      (λ m.
      go (settled_kind g wf.symmetric st I i h
      (record { tail_reached = S.reached; mate_reached = m; settled = K.settled i h S.reached m })))
      (λ m. ⊎_elim (λ l. record { reached = l; entered = λ k. true_false k m }) (λ k. true_false k m) (K.touched i h S.reached))
    where
      y : ℕ
      y = head g i

      go : SettledKind g st i → Stands y is
      go (within q l k) =
          record { reached = l; entered = λ m n. S.entered k (inr (subst (λ (b : ℕ). In (mate (st.via b)) is) (sym q) n)) }
      go (enters r q) =
          record { reached = r.reached; entered = λ m n. free (subst (λ (z : ℕ). In (mate z) is) (ap st.via r.self ∙ sym q) n) }
      go (leaves r q) =
          let b : st.base (tail g i) ≡ mate (tail g i) = sym (I.base_mate (tail g i)) ∙ r.self in
          absurd (S.entered r.reached (inl (ap mate (ap st.via b ∙ sym q) ∙ mate_mate i)))

  pub reachable_reached : (u : ℕ) → is_reachable g u ≡ true → st.reached u ≡ true
  reachable_reached u e =
      let s = g.source in
      let r = (reachable_by_paths g wf u).0 e in
      let P = regular_path g r.0 r.1.0 in
      rw r.1.1 at
      (along_path g Stands move s (end_of g s r.0) r.0 P.joins P.unmated
      (record { reached = I.source_reached; entered = λ k. true_false k shut })).reached

  pub reachable_is : (v : ℕ) → is_reachable g v ≡ st.reached v
  reachable_is v = test_same (is_reachable g v) (st.reached v) (reachable_reached v) (reached_reachable g wf st I v)
