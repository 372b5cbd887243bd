-- The trial `is_reachable` finds a node exactly where a regular path ends there: a path without repeats fits in its fuel.
--   Tried g v w ss us p                from v arc by arc to w, to nodes not in ss, over arcs whose mates are not in us
--   tried_regular, regular_tried       tried from the source: the regular paths
--   reachable_by_paths                 reachable exactly if some regular path ends there
use mathlib.Core.Path.{◌≡◌, refl, sym, subst, ◌∙◌}
use mathlib.Core.Logic.{◌⊎◌, inl, inr, ⊎_elim}
use mathlib.Core.Bool.{Bool, true, ◌&&◌, not}
use mathlib.Core.List.{List, [], ◌∷◌}
use Prim.Native.Nat.{ℕ, zero, suc, ◌≤◌, ◌<◌}
use native.Mathlib.Omega.{arith}
use lib.Dec.{eqb}
use lib.ListN.{length}
use borrow.Author.Tests.{eqb-true, eq-eqb}
use Rattle.counting.specs.Tests.{any, among, below}
use Rattle.counting.specs.Lists.{In, Distinct}
use Rattle.skew.specs.Graph.{Graph, mate, nodes, nodes_along, end_of, is_regular, reaches_from, is_reachable}
use Rattle.skew.specs.Paths.{tail, head, Joins, Unmated, WellFormed}
use Rattle.skew.specs.Promise.{SomePath, ReachesByPathsIn}
use Rattle.counting.proofs.Booleans.{and_four, and_both, or_right, or_cases}
use Rattle.counting.proofs.Membership.{any_some, some_any, not_among_out, out_not_among}
use Rattle.counting.proofs.Range.{up_in, in_up, pigeonhole}
use Rattle.skew.proofs.Mates.{mate_mate, mate_other}
use Rattle.skew.proofs.Paths.{regular_path, path_regular, nodes_cons, nodes_within, length_nodes}

abbrev pub Tried : Graph → (v w : ℕ) → (ss us : List ℕ) → List ℕ → Type 0
Tried g v w ss us [] = v ≡ w
Tried g v w ss us (i ∷ is) =
    (i < length g.arcs) × (tail g i ≡ v) × (In (head g i) ss → ⊥) × (In (mate i) us → ⊥) ×
    Tried g (head g i) w (head g i ∷ ss) (i ∷ us) is

module _ (g : Graph) (w : ℕ) where
  -- the test at one arc
  abbrev tries : ℕ → (v : ℕ) → (ss us : List ℕ) → ℕ → Bool
  tries n v ss us i =
      eqb (tail g i) v && not (among (head g i) ss) && not (among (mate i) us) && reaches_from n g (head g i) w (head g i ∷ ss) (i ∷ us)

  reaches_tried : (n v : ℕ) (ss us : List ℕ) → reaches_from n g v w ss us ≡ true → (is : List ℕ) × Tried g v w ss us is
  unfolding reaches_from
  reaches_tried zero v ss us e = ([], eqb-true v w e)
  reaches_tried (suc n) v ss us e = go (reaches_tried n) (or_cases (eqb v w) _ e)
    where
      go : ((x : ℕ) (ys zs : List ℕ) → reaches_from n g x w ys zs ≡ true → (is : List ℕ) × Tried g x w ys zs is) →
          (eqb v w ≡ true) ⊎ (any (tries n v ss us) (below (length g.arcs)) ≡ true) → (is : List ℕ) × Tried g v w ss us is
      go ih (inl a) = ([], eqb-true v w a)
      go ih (inr b) =
          let r = any_some (tries n v ss us) (below (length g.arcs)) b in
          let i = r.0 in
          let y = head g i in
          let t =
          and_four (eqb (tail g i) v) (not (among y ss)) (not (among (mate i) us)) (reaches_from n g y w (y ∷ ss) (i ∷ us)) r.2 in
          let rest = ih y (y ∷ ss) (i ∷ us) t.3 in (
            i ∷ rest.0,
            (
              omega (arith, in_up 0 (length g.arcs) i r.1),
              eqb-true _ _ t.0,
              not_among_out y ss t.1,
              not_among_out (mate i) us t.2,
              rest.1,
            ),
          )

  tried_reaches : (n v : ℕ) (ss us is : List ℕ) → length is ≤ n → Tried g v w ss us is → reaches_from n g v w ss us ≡ true
  unfolding reaches_from
  tried_reaches zero v ss us [] l t = eq-eqb v w t
  tried_reaches zero v ss us (i ∷ is) l t = absurd (omega arith)
  tried_reaches (suc n) v ss us [] l t = rw (eq-eqb v w t)
  tried_reaches (suc n) v ss us (i ∷ is) l t =
      or_right (eqb v w) _
      (some_any (tries n v ss us) i (below (length g.arcs)) (up_in 0 (length g.arcs) i (omega arith) (omega (arith, t.0)))
      (and_both _ _ (and_both _ _ (and_both _ _ (eq-eqb _ _ t.1) (out_not_among _ ss t.2)) (out_not_among _ us t.3))
      (tried_reaches n (head g i) (head g i ∷ ss) (i ∷ us) is (omega arith) t.4)))

  -- what was tried is a regular path that avoids what was seen before, and back
  record Avoids (v : ℕ) (ss us is : List ℕ) : Type 0 where
    pub joins : Joins g v w is
    pub once : Distinct (nodes_along g v is)
    pub unmated : Unmated is
    pub fresh : (x : ℕ) → In x ss → In x (nodes_along g v is) → x ≡ v
    pub unused : (i : ℕ) → In i is → In (mate i) us → ⊥

  -- the start has been seen
  tried_avoids : (v : ℕ) (ss us is : List ℕ) → In v ss → Tried g v w ss us is → Avoids v ss us is
  unfolding nodes_along
  tried_avoids v ss us [] s t =
      record {
        joins = t;
        once = (λ m. m, tt);
        unmated = λ x m n. m;
        fresh = λ x m n. ⊎_elim (λ e. e) (λ b. absurd b) n;
        unused = λ i m n. m;
      }
  tried_avoids v ss us (i ∷ is) s t =
      let r = tried_avoids (head g i) (head g i ∷ ss) (i ∷ us) is (inl refl) t.4 in
      record {
        joins = (t.0, t.1, r.joins);
        once = (λ m. t.2 (subst (λ (k : ℕ). In k ss) (r.fresh v (inr s) m) s), r.once);
        unmated = λ x.
            ⊎_elim (λ e. ⊎_elim (λ k. mate_other x (k ∙ sym e)) (λ n. r.unused (mate x) n (inl (mate_mate x ∙ e))))
            (λ m. ⊎_elim (λ k. r.unused x m (inl k)) (λ n. r.unmated x m n));
        fresh = λ x m. ⊎_elim (λ e. e) (λ n. absurd (t.2 (subst (λ (k : ℕ). In k ss) (r.fresh x (inr m) n) m)));
        unused = λ j. ⊎_elim (λ e n. t.3 (subst (λ (k : ℕ). In (mate k) us) e n)) (λ m n. r.unused j m (inr n));
      }

  avoids_tried : (v : ℕ) (ss us is : List ℕ) → In v ss → Avoids v ss us is → Tried g v w ss us is
  unfolding nodes_along
  avoids_tried v ss us [] s a = a.joins
  avoids_tried v ss us (i ∷ is) s a = (
    a.joins.0,
    a.joins.1,
    λ m. back (a.fresh (head g i) m (inr (nodes_cons g (head g i) is))) (nodes_cons g (head g i) is),
    a.unused i (inl refl),
    avoids_tried (head g i) (head g i ∷ ss) (i ∷ us) is (inl refl)
        (record {
          joins = a.joins.2;
          once = a.once.1;
          unmated = λ x m n. a.unmated x (inr m) (inr n);
          fresh = λ x m n. ⊎_elim (λ e. e) (λ k. absurd (back (a.fresh x k (inr n)) n)) m;
          unused = λ j m n. ⊎_elim (λ k. a.unmated j (inr m) (inl k)) (λ k. a.unused j (inr m) k) n;
        }),
  )
    where
      -- a node of the rest is not v
      back : {x : ℕ} → x ≡ v → In x (nodes_along g (head g i) is) → ⊥
      back e m = a.once.0 (subst (λ (k : ℕ). In k (nodes_along g (head g i) is)) e m)

-- from the source
module _ (g : Graph) (w : ℕ) (is : List ℕ) where
  pub tried_regular : Tried g g.source w (g.source ∷ []) [] is → (is_regular g is ≡ true) × (end_of g g.source is ≡ w)
  tried_regular t =
      let a = tried_avoids g w g.source (g.source ∷ []) [] is (inl refl) t in
      path_regular g (λ (x : ℕ). Unit {0}) w is (record { joins = a.joins; within = λ x m. tt; once = a.once; unmated = a.unmated })

  pub regular_tried : is_regular g is ≡ true → end_of g g.source is ≡ w → Tried g g.source w (g.source ∷ []) [] is
  regular_tried r e =
      let P = regular_path g is r in
      avoids_tried g w g.source (g.source ∷ []) [] is (inl refl)
      (record {
        joins = rw e at P.joins;
        once = P.once;
        unmated = P.unmated;
        fresh = λ x m n. ⊎_elim (λ e. e) (λ b. absurd b) m;
        unused = λ i m n. n;
      })

pub reachable_by_paths : (g : Graph) → WellFormed g → ReachesByPathsIn g
reachable_by_paths g wf w = (there, here)
  where
    there : is_reachable g w ≡ true → SomePath g w
    there e = let r = reaches_tried g w (nodes g) g.source (g.source ∷ []) [] e in (r.0, tried_regular g w r.0 r.1)

    here : SomePath g w → is_reachable g w ≡ true
    here k =
        let s = g.source in
        let p = k.0 in
        let P = regular_path g p k.1.0 in
        let short : length p ≤ nodes g =
        omega (
          arith,
          length_nodes g s p,
          pigeonhole (nodes g) (nodes_along g s p) P.once (nodes_within g (nodes g) s _ p wf.head_node wf.source_node P.joins),
        ) in
        tried_reaches g w (nodes g) s (s ∷ []) [] p short (regular_tried g w p k.1.0 k.1.1)
