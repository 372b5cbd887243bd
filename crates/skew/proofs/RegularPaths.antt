-- Regular paths put together. Between two sets that are closed under mates and have no common node, an arc and its mate lead opposite ways.
--   path_empty       no arc
--   path_widen       in a larger set
--   concat           CONCAT: a path in one set, an arc, a path in another
--   mate_reverse     MATE-REVERSE: the mates of a path's arcs, the last first
--   extend           EXTEND: one arc more, to a new node, its mate not on the path
--   along_path       what passes over each arc of a path passes from its start to its end
use mathlib.Core.Path.{◌≡◌, refl, sym, ap, subst, ◌∙◌}
use mathlib.Core.Logic.{◌⊎◌, inl, inr, ⊎_elim}
use mathlib.Core.List.{List, [], ◌∷◌, ◌++◌}
use Prim.Native.Nat.{ℕ, ◌<◌}
use lib.ListN.{length}
use Rattle.counting.specs.Lists.{In, Apart, reverse_map}
use Rattle.skew.specs.Graph.{Graph, mate, nodes_along}
use Rattle.skew.specs.Paths.{tail, head, Joins, Unmated, RegularPath, MateClosed, Disjoint, SkewSymmetric}
use Rattle.counting.proofs.Membership.{in_append}
use Rattle.counting.proofs.NoRepeats.{distinct_append}
use Rattle.counting.proofs.Reversal.{in_reverse, distinct_reverse}
use Rattle.skew.proofs.Mates.{mate_mate, mate_other, mate_inj}
use Rattle.skew.proofs.Unmated.{unmated_reverse, unmated_append}
use Rattle.skew.proofs.Paths.{nodes_cons, joins_end, arc_ends, nodes_empty, joins_append, nodes_append, mate_arc, joins_reverse, nodes_reverse}

pub path_empty : {g : Graph} {S : ℕ → Type 0} (a : ℕ) → S a → RegularPath g S a a []
unfolding nodes_along
path_empty a s =
    record { joins = refl; within = λ x m. ⊎_elim (λ e. rw e s) (λ b. absurd b) m; once = (λ m. m, tt); unmated = λ x m n. m }

pub path_widen : {g : Graph} {S R : ℕ → Type 0} {a v : ℕ} {p : List ℕ} → ((x : ℕ) → S x → R x) → RegularPath g S a v p → RegularPath g R a v p
path_widen h P = record { joins = P.joins; within = λ x m. h x (P.within x m); once = P.once; unmated = P.unmated }

module _ {g : Graph} (d : SkewSymmetric g) where
  pub concat : {S R : ℕ → Type 0} {a u v t : ℕ} {p q : List ℕ} → MateClosed S → MateClosed R → Disjoint S R →
      RegularPath g S a u p → t < length g.arcs → tail g t ≡ u → RegularPath g R (head g t) v q →
      RegularPath g (λ (x : ℕ). S x ⊎ R x) a v (p ++ t ∷ q)
  concat {S} {R} {a} {u} {v} {t} {p} {q} closed_s closedR apart P h e Q =
      record {
        joins = joins_append g a u v p t q P.joins h e Q.joins;
        within =
            rw (nodes_append g a p t q)
            (λ x m.
            ⊎_elim (λ n. inl (P.within x n)) (λ n. inr (Q.within x n)) (in_append x (nodes_along g a p) (nodes_along g (head g t) q) m));
        once =
            rw (nodes_append g a p t q)
            (distinct_append (nodes_along g a p) (nodes_along g (head g t) q) P.once Q.once
            (λ x m n. apart x (P.within x m) (Q.within x n)));
        unmated = unmated_append p (t ∷ q) P.unmated tq ptq;
      }
    where
      -- the mates of p's arcs lead into S, t and q's arcs into R
      entersS : (i : ℕ) → In i p → S (head g (mate i))
      entersS i m =
          let r = arc_ends g a u p P.joins i m in
          rw (mate_arc g d i r.0).2 (closed_s (tail g i) (P.within (tail g i) r.1))

      entersR : (i : ℕ) → In i (t ∷ q) → R (head g i)
      entersR i (inl k) = rw k (Q.within (head g t) (nodes_cons g (head g t) q))
      entersR i (inr m) = let r = arc_ends g (head g t) v q Q.joins i m in Q.within (head g i) r.2

      ptq : Apart (reverse_map mate p) (t ∷ q)
      ptq x m n =
          let r = in_reverse mate x p m in
          apart (head g x) (rw r.2 (entersS r.0 r.1)) (entersR x n)

      -- and so does the mate of t into S
      mate_t : (x : ℕ) → x ≡ mate t → S (head g x)
      mate_t x k = rw (k, (mate_arc g d t h).2) (closed_s (tail g t) (rw e (P.within u (joins_end g a u p P.joins))))

      tq : Unmated (t ∷ q)
      tq x (inl k) n = apart (head g (mate x)) (mate_t (mate x) (ap mate k)) (entersR (mate x) n)
      tq x (inr m) (inl k) = apart (head g x) (mate_t x (sym (mate_mate x) ∙ ap mate k)) (entersR x (inr m))
      tq x (inr m) (inr n) = Q.unmated x m n

  pub mate_reverse : {S : ℕ → Type 0} {a v : ℕ} {p : List ℕ} → MateClosed S → RegularPath g S a v p →
      RegularPath g S (mate v) (mate a) (reverse_map mate p)
  mate_reverse {a = a} {v = v} {p = p} closed P =
      record {
        joins = joins_reverse g d a v p P.joins;
        within =
            rw (nodes_reverse g d a v p P.joins)
            (λ x m. let r = in_reverse mate x (nodes_along g a p) m in rw r.2 (closed r.0 (P.within r.0 r.1)));
        once = rw (nodes_reverse g d a v p P.joins) (distinct_reverse mate (nodes_along g a p) mate_inj P.once);
        unmated = unmated_reverse p P.unmated;
      }

pub extend : {g : Graph} {S : ℕ → Type 0} {a v t : ℕ} {p : List ℕ} → RegularPath g S a v p → t < length g.arcs → tail g t ≡ v →
    S (head g t) → (In (head g t) (nodes_along g a p) → ⊥) → (In (mate t) p → ⊥) → RegularPath g S a (head g t) (p ++ t ∷ [])
unfolding nodes_along
extend {g} {S} {a} {v} {t} {p} P h e s new free =
    record {
      joins = joins_append g a v (head g t) p t [] P.joins h e refl;
      within =
          rw (nodes_append g a p t [])
          (λ x m. ⊎_elim (P.within x) (λ n. rw (end x n) s) (in_append x (nodes_along g a p) (nodes_along g (head g t) []) m));
      once =
          rw (nodes_append g a p t [])
          (distinct_append (nodes_along g a p) (nodes_along g (head g t) []) P.once (λ m. m, tt)
          (λ x m n. new (subst (λ (k : ℕ). In k (nodes_along g a p)) (end x n) m)));
      unmated = unmated_append p (t ∷ []) P.unmated self apart;
    }
  where
    end : (x : ℕ) → In x (nodes_along g (head g t) []) → x ≡ head g t
    end = nodes_empty g (head g t)

    self : Unmated (t ∷ [])
    self x (inl k) (inl l) = mate_other x (l ∙ sym k)
    self x (inl k) (inr b) = b
    self x (inr b) n = b

    apart : Apart (reverse_map mate p) (t ∷ [])
    apart x m (inl k) =
        let r = in_reverse mate x p m in
        free (subst (λ (n : ℕ). In n p) (sym (mate_mate r.0) ∙ ap mate (sym r.2 ∙ k)) r.1)
    apart x m (inr b) = b

-- Q speaks of a node on the path and of the arcs still to come, none of them the mate of the arc just taken
pub along_path : (g : Graph) (Q : ℕ → List ℕ → Type 0) →
    ((i : ℕ) (is : List ℕ) → i < length g.arcs → (In (mate i) is → ⊥) → Q (tail g i) (i ∷ is) → Q (head g i) is) →
    (v w : ℕ) (p : List ℕ) → Joins g v w p → Unmated p → Q v p → Q w []
along_path g Q move v w [] j u q = rw (← j) q
along_path g Q move v w (i ∷ is) j u q =
    along_path g Q move (head g i) w is j.2 (λ x m n. u x (inr m) (inr n))
    (move i is j.0 (λ m. u i (inl refl) (inr m)) (subst (λ (z : ℕ). Q z (i ∷ is)) (sym j.1) q))
