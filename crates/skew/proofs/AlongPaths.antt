-- Regular paths from the source: their nodes are reachable, and they are met once.
--   PathTo v p                          p is a regular path from the source to v
--   reachable_path, path_reachable      reachable nodes are the ends of regular paths
--   arrives_by, leaves_by               the arc by which a path comes to a node, and the arc by which it goes on
--   along_reachable                     every node of the path is reachable
--   last_arc                            some arc into a reachable node comes from a reachable node
--   met_once                            where only one arc leads into x, a regular path that meets x and its mate ends at the mate
use mathlib.Core.Path.{◌≡◌, refl, sym, ap, subst, ◌∙◌}
use mathlib.Core.Logic.{inl, inr, ◌≢◌, ⊎_elim}
use mathlib.Core.Bool.{true}
use mathlib.Core.List.{List, [], ◌∷◌, ◌++◌}
use Prim.Native.Nat.{ℕ, ◌<◌}
use lib.ListN.{length}
use Rattle.counting.specs.Lists.{In, Within, Distinct}
use Rattle.skew.specs.Graph.{Graph, mate, nodes_along, is_reachable}
use Rattle.skew.specs.Paths.{tail, head, Joins, RegularPath, WellFormed}
use Rattle.counting.proofs.Booleans.{same_or}
use Rattle.counting.proofs.Membership.{in_left}
use Rattle.skew.proofs.Mates.{mate_mate}
use Rattle.skew.proofs.Paths.{regular_path, path_regular, nodes_cons, joins_end, arc_ends, mate_arc}
use Rattle.skew.proofs.Reachable.{reachable_by_paths}

module _ (g : Graph) where
  -- a path up to one of its nodes
  path_cut : (a v x : ℕ) (p : List ℕ) → Joins g a v p → In x (nodes_along g a p) → (q : List ℕ) × (r : List ℕ) × (p ≡ q ++ r) × Joins g a x q
  unfolding nodes_along
  path_cut a v x [] j (inl e) = ([], [], refl, sym e)
  path_cut a v x [] j (inr b) = absurd b
  path_cut a v x (i ∷ is) j (inl e) = ([], i ∷ is, refl, sym e)
  path_cut a v x (i ∷ is) j (inr m) =
      let r = path_cut (head g i) v x is j.2 m in (i ∷ r.0, r.1, ap (λ (z : List ℕ). i ∷ z) r.2, (j.0, j.1, r.3))

  prefix_nodes : (a x : ℕ) (q r : List ℕ) → In x (nodes_along g a q) → In x (nodes_along g a (q ++ r))
  unfolding nodes_along
  prefix_nodes a x [] r (inl e) = rw e (nodes_cons g a r)
  prefix_nodes a x [] r (inr b) = absurd b
  prefix_nodes a x (i ∷ is) r (inl e) = inl e
  prefix_nodes a x (i ∷ is) r (inr m) = inr (prefix_nodes (head g i) x is r m)

  prefix_once : (a : ℕ) (q r : List ℕ) → Distinct (nodes_along g a (q ++ r)) → Distinct (nodes_along g a q)
  unfolding nodes_along
  prefix_once a [] r d = (λ m. m, tt)
  prefix_once a (i ∷ is) r d = (λ m. d.0 (prefix_nodes (head g i) a is r m), prefix_once (head g i) is r d.1)

  pub arrives_by : (a v x : ℕ) (p : List ℕ) → Joins g a v p → In x (nodes_along g a p) → x ≢ a → (i : ℕ) × In i p × (head g i ≡ x)
  unfolding nodes_along
  arrives_by a v x [] j (inl e) ne = absurd (ne e)
  arrives_by a v x [] j (inr b) ne = absurd b
  arrives_by a v x (i ∷ is) j (inl e) ne = absurd (ne e)
  arrives_by a v x (i ∷ is) j (inr m) ne =
      ⊎_elim (λ e. (i, inl refl, sym e)) (λ e. let r = arrives_by (head g i) v x is j.2 m e in (r.0, inr r.1, r.2)) (same_or x (head g i))

  pub leaves_by : (a v x : ℕ) (p : List ℕ) → Joins g a v p → In x (nodes_along g a p) → x ≢ v → (i : ℕ) × In i p × (tail g i ≡ x)
  unfolding nodes_along
  leaves_by a v x [] j (inl e) ne = absurd (ne (e ∙ j))
  leaves_by a v x [] j (inr b) ne = absurd b
  leaves_by a v x (i ∷ is) j (inl e) ne = (i, inl refl, j.1 ∙ sym e)
  leaves_by a v x (i ∷ is) j (inr m) ne = let r = leaves_by (head g i) v x is j.2 m ne in (r.0, inr r.1, r.2)

module _ (g : Graph) (W : WellFormed g) where
  abbrev pub PathTo : ℕ → List ℕ → Type 0
  PathTo v p = RegularPath g (λ (x : ℕ). Unit {0}) g.source v p

  pub reachable_path : (v : ℕ) → is_reachable g v ≡ true → (p : List ℕ) × PathTo v p
  reachable_path v e =
      let r = (reachable_by_paths g W v).0 e in
      (r.0, subst (λ (z : ℕ). PathTo z r.0) r.1.1 (regular_path g r.0 r.1.0))

  pub path_reachable : (v : ℕ) (p : List ℕ) → PathTo v p → is_reachable g v ≡ true
  path_reachable v p P =
      (reachable_by_paths g W v).1 (p, path_regular g (λ (x : ℕ). Unit {0}) v p P)

  pub along_reachable : (v : ℕ) (p : List ℕ) → PathTo v p → Within (λ (x : ℕ). is_reachable g x ≡ true) (nodes_along g g.source p)
  along_reachable v p P x m =
      let r = path_cut g g.source v x p P.joins m in
      let q = r.0 in
      path_reachable x q
      (record {
        joins = r.3;
        within = λ z k. tt;
        once = prefix_once g g.source q r.1 (subst (λ (z : List ℕ). Distinct (nodes_along g g.source z)) r.2 P.once);
        unmated = λ z k l.
            let up : (y : ℕ) → In y q → In y p = λ y h. subst (λ (w : List ℕ). In y w) (sym r.2) (in_left y q r.1 h) in
            P.unmated z (up z k) (up (mate z) l);
      })

  pub last_arc : (v : ℕ) → is_reachable g v ≡ true → v ≢ g.source →
      (i : ℕ) × (i < length g.arcs) × (head g i ≡ v) × (is_reachable g (tail g i) ≡ true)
  last_arc v e ne =
      let P = reachable_path v e in
      let p = P.0 in
      let c = arrives_by g g.source v v p P.1.joins (joins_end g g.source v p P.1.joins) ne in
      let a = arc_ends g g.source v p P.1.joins c.0 c.1 in
      (c.0, a.0, c.2, along_reachable v p P.1 (tail g c.0) a.1)

  module _ (x : ℕ) (one : (i j : ℕ) → i < length g.arcs → j < length g.arcs → head g i ≡ x → head g j ≡ x → i ≡ j) (ne : x ≢ g.source) where
    pub met_once : (v : ℕ) (p : List ℕ) → PathTo v p → In x (nodes_along g g.source p) → In (mate x) (nodes_along g g.source p) → mate x ≢ v → ⊥
    met_once v p P m k nv =
        let b = arrives_by g g.source v x p P.joins m ne in
        let a = leaves_by g g.source v (mate x) p P.joins k nv in
        let ha = (arc_ends g g.source v p P.joins a.0 a.1).0 in
        let hb = (arc_ends g g.source v p P.joins b.0 b.1).0 in
        let r = mate_arc g W.symmetric a.0 ha in
        let e : head g (mate a.0) ≡ x = r.2 ∙ ap mate a.2 ∙ mate_mate x in
        let same : b.0 ≡ mate a.0 = one b.0 (mate a.0) hb r.0 b.2 e in
        P.unmated a.0 a.1 (subst (λ (z : ℕ). In z p) same b.1)
