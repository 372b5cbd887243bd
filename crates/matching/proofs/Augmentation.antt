-- A regular path of the doubled table is a run of rotations: an augmenting path. A camera whose node 2k+1 is still ahead has its old
-- partner: that is the whole invariant.
--   path_leaves_over, reachable_left     to 2k: a matching with as many pairs that leaves k over
--   path_augments, path_more             to the source's mate: one with one pair more that keeps every lit camera lit
--   path_rotates                         each rotation of such a path is between different cameras below n
--   wanted_augments                      both, of the path that document 03's is_wanted tells
use mathlib.Core.Path.{◌≡◌, refl, sym, ap, subst, ◌∙◌}
use mathlib.Core.Logic.{◌⊎◌, inl, inr, ◌≢◌, ⊎_elim}
use mathlib.Core.Bool.{true}
use mathlib.Core.List.{List, [], ◌∷◌}
use Prim.Native.Nat.{ℕ, ◌+◌, ◌*◌, ◌/◌, ◌<◌}
use native.Mathlib.Omega.{arith}
use lib.Dec.{eqb}
use lib.ListN.{length, drop}
use borrow.Author.Tests.{eqb-true}
use Rattle.counting.specs.Lists.{In, Within, Distinct}
use Rattle.counting.specs.declared.Pair.{Pair}
use Rattle.counting.proofs.Booleans.{and_two, same_or}
use Rattle.skew.specs.Graph.{Graph, mate, arc_at, nodes_along, end_of, is_regular, is_wanted, is_reachable, has_path}
use Rattle.skew.specs.Paths.{tail, head, Joins, WellFormed}
use Rattle.skew.proofs.Paths.{nodes_cons, regular_path}
use Rattle.skew.proofs.AlongPaths.{PathTo, reachable_path, met_once}
use Rattle.matching.specs.Matching.{FitsBelow, Fits, Matching, unlit}
use Rattle.matching.specs.DoubledTable.{doubled_table, ArcKind, from_source, to_mate, lit_fit, other_fit}
use Rattle.matching.specs.Rotation.{rotate, rotate_along, Rotates, LeavesOver, Augments}
use Rattle.matching.proofs.Matchings.{fits_low, matching_low}
use Rattle.matching.proofs.Rotations.{rotate_third, rotate_other, rotate_matching, rotate_unlit, rotate_moves, rotate_gains}
use Rattle.matching.proofs.DoubledTable.{mate_even, arc_kind, table_well_formed}
use Rattle.matching.proofs.OneArcIn.{one_arc_in}

module _ (n : ℕ) (fs : List Pair) (F : FitsBelow n fs) (p : ℕ → ℕ) (M : Matching fs p) where
  abbrev g : Graph
  g = doubled_table n fs p

  abbrev W : WellFormed g
  W = table_well_formed n fs F p M

  -- what the rotations of a path to t make of p
  data Outcome (t : ℕ) (q : ℕ → ℕ) : Type 0 where
    moved : (k : ℕ) → t ≡ 2 * k → LeavesOver n fs p k q → Outcome t q
    gained : t ≡ 2 * n + 1 → Augments n fs p q → Outcome t q

  module _ (t : ℕ) (P : List ℕ) (R : PathTo g W t P) (other : (v : ℕ) → v < n → t ≢ 2 * v + 1) where
    abbrev N : List ℕ
    N = nodes_along g g.source P

    far : (k : ℕ) → k < n → In (2 * k) N → In (2 * k + 1) N → ⊥
    far k h a b =
        met_once g W (2 * k) (one_arc_in n fs p M k) (λ z. omega arith) t P R a (subst (λ (z : ℕ). In z N) (sym (mate_even k)) b)
        (λ z. other k h (sym z ∙ mate_even k))

    -- u is unlit, what is ahead is as p has it
    record At (u : ℕ) (rest : List ℕ) (q : ℕ → ℕ) : Type 0 where
      pub matching : Matching fs q
      pub low : u < n
      pub free : q u ≡ u
      pub joins : Joins g (2 * u) t rest
      pub within : Within (λ (x : ℕ). In x N) (nodes_along g (2 * u) rest)
      pub once : Distinct (nodes_along g (2 * u) rest)
      pub ahead : (k : ℕ) → In (2 * k + 1) (nodes_along g (2 * u) rest) → q k ≡ p k
      pub count : length (unlit n q) ≡ length (unlit n p)
      pub covers : (k : ℕ) → p k ≢ k → (q k ≢ k) ⊎ (k ≡ u)

    -- out of 2u only to a fit outside the pairing
    record Out (u i : ℕ) : Type 0 where
      pub to : ℕ
      pub fit : Fits fs u to
      pub leads : head g i ≡ 2 * to + 1

    out_of : (u i : ℕ) → u < n → i < length g.arcs → tail g i ≡ 2 * u → Out u i
    out_of u i l h e = go (arc_kind n fs F p M i h)
      where
        go : ArcKind n fs p (arc_at g i) → Out u i
        go (from_source k a b c d) = absurd (omega arith)
        go (to_mate k a b c d) = absurd (omega arith)
        go (lit_fit k a pl b c d) = absurd (omega arith)
        go (other_fit x y a b c d) = let z : x ≡ u = omega arith in record { to = y; fit = subst (λ (w : ℕ). Fits fs w y) z a; leads = d }

    -- out of 2v+1 to the source's mate, or to the partner
    abbrev OnFrom : (camera arc : ℕ) → Type 0
    OnFrom v j =
        ((p v ≡ v) × (head g j ≡ 2 * n + 1)) ⊎ ((p v ≢ v) × (p v < n) × (head g j ≡ 2 * p v))

    on_from : (v j : ℕ) → j < length g.arcs → tail g j ≡ 2 * v + 1 → OnFrom v j
    on_from v j h e = go (arc_kind n fs F p M j h)
      where
        go : ArcKind n fs p (arc_at g j) → OnFrom v j
        go (from_source k a b c d) = absurd (omega arith)
        go (to_mate k a b c d) = let z : k ≡ v = omega arith in inl (subst (λ (w : ℕ). p w ≡ w) z b, d)
        go (lit_fit k a pl b c d) =
            let z : k ≡ v = omega arith in
            inr (subst (λ (w : ℕ). p w ≢ w) z b, subst (λ (w : ℕ). p w < n) z pl, d ∙ ap (λ (w : ℕ). 2 * p w) z)
        go (other_fit x y a b c d) = absurd (omega arith)

    no_further : (rest : List ℕ) (w : ℕ) → w ≡ 2 * n + 1 → Joins g w t rest → (rest ≡ []) × (t ≡ 2 * n + 1)
    no_further [] w e j = (refl, sym j ∙ e)
    no_further (i ∷ is) w e j = absurd (go (arc_kind n fs F p M i j.0) j.1)
      where
        go : ArcKind n fs p (arc_at g i) → tail g i ≡ w → ⊥
        go (from_source k a b c d) z = omega arith
        go (to_mate k a b c d) z = omega arith
        go (lit_fit k a pl b c d) z = omega arith
        go (other_fit x y a b c d) z = omega (arith, (fits_low n fs F x y a).0)

    -- over a lit pair: its other camera becomes unlit
    next : (i j : ℕ) (rest : List ℕ) (u : ℕ) (q : ℕ → ℕ) (A : At u (i ∷ j ∷ rest) q) (v : ℕ) → Fits fs u v → head g i ≡ 2 * v + 1 → p v ≢ v → p v < n →
        head g j ≡ 2 * p v → At (p v) rest (rotate q u v)
    unfolding nodes_along
    next i j rest u q A v f e z0 z1 z2 =
        let same : q v ≡ p v = A.ahead v (inr (inl (sym e))) in
        let w = p v in
        let l = fits_low n fs F u v f in
        let wu : w ≢ u = λ y. l.2 (sym A.free ∙ ap q (sym (same ∙ y)) ∙ A.matching.back v) in
        let deep : (x : ℕ) → In x (nodes_along g (2 * w) rest) → In x (nodes_along g (head g j) rest) =
        λ x m. subst (λ (y : ℕ). In x (nodes_along g y rest)) (sym z2) m in
        let on : In (2 * w) N = A.within (2 * w) (inr (inr (deep (2 * w) (nodes_cons g (2 * w) rest)))) in
        record {
          matching = rotate_matching n fs F q A.matching u v A.free f;
          low = z1;
          free = rotate_third n fs F q A.matching u v A.free f w wu z0 (sym same);
          joins = subst (λ (y : ℕ). Joins g y t rest) z2 A.joins.2.2;
          within = λ x m. A.within x (inr (inr (deep x m)));
          once = subst (λ (y : ℕ). Distinct (nodes_along g y rest)) z2 A.once.1.1;
          ahead = λ k m.
              let m' = deep (2 * k + 1) m in
              let at : (x : ℕ) → k ≡ x → In (2 * x + 1) N = λ x y. A.within (2 * x + 1) (subst (λ (z : ℕ). In (2 * z + 1) (nodes_along g (2 * u) (i ∷ j ∷ rest))) y (inr (inr m'))) in
              let ku : k ≢ u = λ y. far u A.low (A.within (2 * u) (inl refl)) (at u y) in
              let kv : k ≢ v = λ y. A.once.1.0 (subst (λ (x : ℕ). In x (nodes_along g (head g j) rest)) (ap (λ (x : ℕ). 2 * x + 1) y ∙ sym e) m') in
              let kw : k ≢ w = λ y. far w z1 on (at w y) in
              rotate_other n fs F q A.matching u v A.free f k ku kv (λ y. kw (y ∙ same)) ∙ A.ahead k (inr (inr m'));
          count = rotate_moves n fs F q A.matching u v A.free f (λ y. z0 (sym same ∙ y)) ∙ A.count;
          covers = λ k ne.
              ⊎_elim (λ y. inr y)
              (λ y. inl (λ h.
              let r = rotate_unlit n fs F q A.matching u v A.free f k h in
              ⊎_elim (λ x. y (x ∙ same)) (λ x. ⊎_elim (λ d. d x) (λ d. r.0 d) (A.covers k ne)) r.2)) (same_or k w);
        }

    -- what the rotations of the rest of the path are, and what they make of p
    abbrev Follows : (rest : List ℕ) → (partner : ℕ → ℕ) → Type 0
    Follows rest q = Rotates n g rest q × Outcome t (rotate_along g rest q)

    follow : (rest : List ℕ) (u : ℕ) (q : ℕ → ℕ) → At u rest q → Follows rest q
    unfolding nodes_along rotate_along
    follow [] u q A = (tt, moved u (sym A.joins) (record { matching = A.matching; left = A.free; count = A.count }))
    follow (i ∷ []) u q A =
        let o = out_of u i A.low A.joins.0 A.joins.1 in
        absurd (other o.to (fits_low n fs F u o.to o.fit).1 (sym A.joins.2 ∙ o.leads))
    follow (i ∷ j ∷ rest) u q A =
        let o = out_of u i A.low A.joins.0 A.joins.1 in
        let J = A.joins.2 in
        let a : tail g i / 2 ≡ u = let z = A.joins.1 in omega arith in
        let b : head g i / 2 ≡ o.to = let z = o.leads in omega arith in
        let r = step o.to o.fit o.leads (on_from o.to j J.0 (J.1 ∙ o.leads)) (follow rest) in
        place (tail g i / 2) (head g i / 2) o.to o.fit a b r
      where
        step : (v : ℕ) → Fits fs u v → head g i ≡ 2 * v + 1 → OnFrom v j → ((x : ℕ) (r : ℕ → ℕ) → At x rest r → Follows rest r) →
            Follows rest (rotate q u v)
        step v f e (inl z) ih =
            let same : q v ≡ p v = A.ahead v (inr (inl (sym e))) in
            let still : q v ≡ v = same ∙ z.0 in
            let gain = rotate_gains n fs F q A.matching u v A.free f still in
            let c = A.count in
            let o = no_further rest (head g j) z.1 A.joins.2.2 in
            subst (λ (y : List ℕ). Follows y (rotate q u v)) (sym o.0) (
              tt,
              gained o.1
                  (record {
                    matching = rotate_matching n fs F q A.matching u v A.free f;
                    count = omega arith;
                    keeps = λ k ne h.
                        let r = rotate_unlit n fs F q A.matching u v A.free f k h in
                        ⊎_elim (λ w. r.1 (w ∙ still)) (λ w. ⊎_elim (λ y. y w) (λ y. r.0 y) (A.covers k ne)) r.2;
                  }),
            )
        step v f e (inr z) ih = ih (p v) (rotate q u v) (next i j rest u q A v f e z.0 z.1 z.2)

        place : (x y v : ℕ) → Fits fs u v → x ≡ u → y ≡ v → Follows rest (rotate q u v) →
            ((i < length g.arcs) × (x < n) × (y < n) × (q y < n) × (x ≢ y) × Rotates n g rest (rotate q x y)) ×
            Outcome t (rotate_along g rest (rotate q x y))
        place x y v f a b r =
            let l = fits_low n fs F u v f in
            rw (a, b) ((A.joins.0, l.0, l.1, matching_low n fs F q A.matching v l.1, l.2, r.0), r.1)

  -- from the source to an unlit camera
  begins : (t i : ℕ) (is : List ℕ) (R : PathTo g W t (i ∷ is)) → (k : ℕ) × ((other : (v : ℕ) → v < n → t ≢ 2 * v + 1) → At t (i ∷ is) R other k is p)
  unfolding nodes_along
  begins t i is R = go (arc_kind n fs F p M i R.joins.0) R.joins.1
    where
      go : ArcKind n fs p (arc_at g i) → tail g i ≡ 2 * n → (k : ℕ) × ((other : (v : ℕ) → v < n → t ≢ 2 * v + 1) → At t (i ∷ is) R other k is p)
      go (to_mate k a b c d) z = absurd (omega arith)
      go (lit_fit k a pl b c d) z = absurd (omega arith)
      go (other_fit x y a b c d) z = absurd (omega (arith, (fits_low n fs F x y a).0))
      go (from_source k a b c d) z = (
        k,
        λ other. record {
          matching = M;
          low = a;
          free = b;
          joins = subst (λ (y : ℕ). Joins g y t is) d R.joins.2;
          within = λ x m. inr (subst (λ (y : ℕ). In x (nodes_along g y is)) (sym d) m);
          once = subst (λ (y : ℕ). Distinct (nodes_along g y is)) d R.once.1;
          ahead = λ x m. refl;
          count = refl;
          covers = λ x ne. inl ne;
        },
      )

  follows : (t : ℕ) (P : List ℕ) → PathTo g W t P → ((v : ℕ) → v < n → t ≢ 2 * v + 1) → t ≢ 2 * n →
      Rotates n g (drop 1 P) p × Outcome t (rotate_along g (drop 1 P) p)
  follows t [] R other ns = absurd (ns (sym R.joins))
  follows t (i ∷ is) R other ns = let r = begins t i is R in follow t (i ∷ is) R other is r.0 p (r.1 other)

  -- TO 2k
  pub path_leaves_over : (k : ℕ) → k < n → (P : List ℕ) → PathTo g W (2 * k) P → LeavesOver n fs p k (rotate_along g (drop 1 P) p)
  path_leaves_over k h P R = go (rotate_along g (drop 1 P) p) (follows (2 * k) P R (λ v l z. omega arith) (λ z. omega arith)).1
    where
      go : (q : ℕ → ℕ) → Outcome (2 * k) q → LeavesOver n fs p k q
      go q (moved j t L) = let w : j ≡ k = omega arith in subst (λ (y : ℕ). LeavesOver n fs p y q) w L
      go q (gained t G) = absurd (omega arith)

  pub reachable_left : (k : ℕ) → k < n → is_reachable g (2 * k) ≡ true → (q : ℕ → ℕ) × LeavesOver n fs p k q
  reachable_left k h e = let r = reachable_path g W (2 * k) e in (rotate_along g (drop 1 r.0) p, path_leaves_over k h r.0 r.1)

  -- TO THE SOURCE'S MATE
  pub path_augments : (P : List ℕ) → PathTo g W (2 * n + 1) P → Augments n fs p (rotate_along g (drop 1 P) p)
  path_augments P R = go (rotate_along g (drop 1 P) p) (follows (2 * n + 1) P R (λ v l z. omega arith) (λ z. omega arith)).1
    where
      go : (q : ℕ → ℕ) → Outcome (2 * n + 1) q → Augments n fs p q
      go q (moved j t L) = absurd (omega arith)
      go q (gained t G) = G

  pub path_rotates : (P : List ℕ) → PathTo g W (2 * n + 1) P → Rotates n g (drop 1 P) p
  path_rotates P R = (follows (2 * n + 1) P R (λ v l z. omega arith) (λ z. omega arith)).0

  pub path_more : has_path g ≡ true → (q : ℕ → ℕ) × Augments n fs p q
  path_more e =
      let m : mate (2 * n) ≡ 2 * n + 1 = mate_even n in
      let r = reachable_path g W (2 * n + 1) (subst (λ (z : ℕ). is_reachable g z ≡ true) m e) in
      (rotate_along g (drop 1 r.0) p, path_augments r.0 r.1)

  pub wanted_augments : (P : List ℕ) → is_wanted g P ≡ true → Rotates n g (drop 1 P) p × Augments n fs p (rotate_along g (drop 1 P) p)
  wanted_augments P e =
      let r = and_two (is_regular g P) (eqb (end_of g g.source P) (mate g.source)) e in
      let end : end_of g g.source P ≡ 2 * n + 1 = eqb-true _ _ r.1 ∙ mate_even n in
      let R : PathTo g W (2 * n + 1) P = subst (λ (z : ℕ). PathTo g W z P) end (regular_path g P r.0) in
      (path_rotates P R, path_augments P R)
