-- The tree step keeps the invariant (TREE). An arc leads from a reached node to a node that is new, as its mate is; the two become a plain fragment.
--   tree_step_keeps      the invariant holds afterwards
use mathlib.Core.Path.{◌≡◌, sym, ap, subst, ◌∙◌}
use mathlib.Core.Logic.{◌⊎◌, inl, inr, ◌≢◌, ⊎_elim}
use mathlib.Core.Bool.{true, false}
use mathlib.Core.List.{[]}
use Prim.Native.Nat.{ℕ, ◌≤◌, ◌<◌}
use native.Mathlib.Omega.{arith}
use lib.ListN.{length}
use Rattle.skew.specs.Graph.{Graph, mate}
use Rattle.skew.specs.Paths.{tail, head}
use Rattle.skew.specs.Segments.{done, LabelledPath}
use Rattle.skew.specs.Search.{State, IsBase, InFragment, Plain, BaseArc, Earlier, Invariant}
use Rattle.skew.specs.Steps.{TreeStep}
use Rattle.counting.proofs.Booleans.{by_test, true_false, same_or}
use Rattle.skew.proofs.Mates.{mate_mate, mate_inj, pair_or_other, pair_mate, other_mate}
use Rattle.skew.proofs.RegularPaths.{path_empty, path_widen}
use Rattle.skew.proofs.Segments.{seg_mono}

module _ (g : Graph) (st : State) (I : Invariant g st) (e : ℕ) (h : e < length g.arcs) (lv : st.reached (tail g e) ≡ true)
    (lw : st.reached (head g e) ≡ false) (lm : st.reached (mate (head g e)) ≡ false) (new : State) (N : TreeStep g st e new) where
  abbrev w : ℕ
  w = head g e

  -- THE NEW PAIR, and nodes outside it
  out : (u : ℕ) → st.reached u ≡ true → (u ≢ w) × (u ≢ mate w)
  out u l = (λ q. true_false l (rw q lw), λ q. true_false l (rw q lm))

  base_out : (b u : ℕ) → IsBase st b → st.base u ≡ b → (u ≢ w) × (u ≢ mate w)
  base_out b u r q =
      ⊎_elim (out u)
      (λ k.
      let m : u ≡ mate b = k.1 in
      let o = out b r.reached in
      (λ n. o.1 (sym (mate_mate b) ∙ ap mate (sym m ∙ n)), λ n. o.0 (mate_inj b w (sym m ∙ n))))
      (I.whole b u r q)

  base_pair : (u : ℕ) → (u ≡ w) ⊎ (u ≡ mate w) → new.base u ≡ w
  base_pair u (inl q) = rw q N.base_head
  base_pair u (inr q) = rw q N.base_head_mate

  -- WHAT IS AS IT WAS
  reached_still : (u : ℕ) → st.reached u ≡ true → new.reached u ≡ true
  reached_still u l = N.reached_other u (out u l).0 ∙ l

  base_still : (u : ℕ) → st.reached u ≡ true → new.base u ≡ st.base u
  base_still u l = N.base_other u (out u l)

  via_still : (u : ℕ) → st.reached u ≡ true → new.via u ≡ st.via u
  via_still u l = N.via_other u (out u l).0

  birth_still : (u : ℕ) → st.reached u ≡ true → new.birth u ≡ st.birth u
  birth_still u l = N.birth_other u (out u l).0

  base_birth : (u : ℕ) → st.reached u ≡ true → new.birth (new.base u) ≡ st.birth (st.base u)
  base_birth u l = rw (base_still u l) (birth_still (st.base u) (I.base_base u l).reached)

  fragment_still : (b x : ℕ) → IsBase st b → st.base x ≡ b → new.base x ≡ b
  fragment_still b x r q = N.base_other x (base_out b x r q) ∙ q

  fragment_back : (b x : ℕ) → b ≢ w → new.base x ≡ b → st.base x ≡ b
  fragment_back b x n q = ⊎_elim (λ a. absurd (n (sym q ∙ base_pair x a))) (λ o. sym (N.base_other x o) ∙ q) (pair_or_other w x)

  -- OLD OR NEW
  reached_cases : (u : ℕ) → new.reached u ≡ true → (u ≡ w) ⊎ (st.reached u ≡ true)
  reached_cases u l = ⊎_elim (λ q. inl q) (λ n. inr (sym (N.reached_other u n) ∙ l)) (same_or u w)

  base_cases : (b : ℕ) → IsBase new b → (b ≡ w) ⊎ IsBase st b
  base_cases b r =
      ⊎_elim (λ q. inl q) (λ l. inr (record { reached = l; self = sym (base_still b l) ∙ r.self })) (reached_cases b r.reached)

  -- THE CLAUSES
  source_first : (u : ℕ) → new.reached u ≡ true → new.birth g.source ≤ new.birth u
  source_first u l =
      let s = birth_still g.source I.source_reached in
      ⊎_elim (λ (q : u ≡ w). rw (q, N.birth_head, s) (omega (arith, I.before_clock g.source I.source_reached)))
      (λ m. rw (birth_still u m, s) (I.source_first u m)) (reached_cases u l)

  base_mate : (u : ℕ) → new.base (mate u) ≡ new.base u
  base_mate u =
      ⊎_elim (λ a. base_pair (mate u) (pair_mate w u a) ∙ sym (base_pair u a))
      (λ o. N.base_other (mate u) (other_mate w u o) ∙ I.base_mate u ∙ sym (N.base_other u o)) (pair_or_other w u)

  base_base : (u : ℕ) → new.reached u ≡ true → IsBase new (new.base u)
  base_base u l =
      ⊎_elim (λ q. rw (base_pair u (inl q)) (record { reached = N.reached_head; self = N.base_head }))
      (λ m.
      let r = I.base_base u m in
      rw (base_still u m) (record { reached = reached_still (st.base u) r.reached; self = base_still (st.base u) r.reached ∙ r.self }))
      (reached_cases u l)

  abbrev Path : ℕ → ℕ → Type 0
  Path b u = LabelledPath g (InFragment new b) new.reached new.via b u

  path : (u : ℕ) → new.reached u ≡ true → Path (new.base u) u
  path u l = ⊎_elim here there (reached_cases u l)
    where
      here : u ≡ w → Path (new.base u) u
      here q =
          subst (λ (b : ℕ). Path b u) (sym (base_pair u (inl q)))
          (subst (λ (k : ℕ). Path w k) (sym q) ([], path_empty w N.base_head, done))

      there : st.reached u ≡ true → Path (new.base u) u
      there m =
          let r = I.path u m in
          subst (λ (b : ℕ). Path b u) (sym (base_still u m)) (
            r.0,
            path_widen (λ x q. fragment_still (st.base u) x (I.base_base u m) q) r.1,
            seg_mono (λ y k. (reached_still y k, via_still y k)) r.2,
          )

  plain_new : Plain new w
  plain_new x k =
      ⊎_elim (λ a. a)
      (λ o.
      let f : st.base x ≡ w = sym (N.base_other x o) ∙ k in
      let t : (x ≡ w) ⊎ (x ≡ mate w) = rw f at (I.unreached_pair x (rw f lw)) in
      t)
      (pair_or_other w x)

  whole : (b u : ℕ) → IsBase new b → new.base u ≡ b → (new.reached u ≡ true) ⊎ (Plain new b × (u ≡ mate b))
  whole b u r q = ⊎_elim here there (base_cases b r)
    where
      here : b ≡ w → (new.reached u ≡ true) ⊎ (Plain new b × (u ≡ mate b))
      here k =
          ⊎_elim (λ a. inl (rw a N.reached_head))
          (λ a. inr (subst (λ (c : ℕ). Plain new c) (sym k) plain_new, a ∙ ap mate (sym k))) (plain_new u (q ∙ k))

      there : IsBase st b → (new.reached u ≡ true) ⊎ (Plain new b × (u ≡ mate b))
      there s =
          let n = (out b s.reached).0 in
          ⊎_elim (λ l. inl (reached_still u l)) (λ k. inr ((λ x j. k.0 x (fragment_back b x n j)), k.1))
          (I.whole b u s (fragment_back b u n q))

  base_arc : (b : ℕ) → IsBase new b → b ≢ g.source → BaseArc g new b
  base_arc b r n = ⊎_elim here there (base_cases b r)
    where
      here : b ≡ w → BaseArc g new b
      here k =
          rw k
          (record {
            is_arc = rw N.via_head h;
            head_is = ap (head g) N.via_head;
            tail_reached = rw N.via_head (reached_still (tail g e) lv);
            base_earlier =
                rw (N.via_head, base_birth (tail g e) lv, N.birth_head)
                (I.before_clock (st.base (tail g e)) (I.base_base (tail g e) lv).reached);
          })

      there : IsBase st b → BaseArc g new b
      there s =
          let a = I.base_arc b s n in
          let k = via_still b s.reached in
          record {
            is_arc = rw k a.is_arc;
            head_is = rw k a.head_is;
            tail_reached = rw k (reached_still (tail g (st.via b)) a.tail_reached);
            base_earlier = rw (k, birth_still b s.reached, base_birth (tail g (st.via b)) a.tail_reached) a.base_earlier;
          }

  before_clock : (u : ℕ) → new.reached u ≡ true → new.birth u < new.clock
  before_clock u l =
      ⊎_elim (λ (q : u ≡ w). rw (q, N.birth_head, N.clock_next) (omega arith))
      (λ m. rw (birth_still u m, N.clock_next) (omega (arith, I.before_clock u m))) (reached_cases u l)

  via_earlier : (u : ℕ) → new.reached u ≡ true → u ≢ g.source → Earlier g new u
  via_earlier u l n = ⊎_elim here there (reached_cases u l)
    where
      here : u ≡ w → Earlier g new u
      here q =
          rw q
          (record {
            tail_reached = rw N.via_head (reached_still (tail g e) lv);
            tail_earlier = rw (N.via_head, N.birth_head, birth_still (tail g e) lv) (I.before_clock (tail g e) lv);
            head_mate = inl (ap (head g) N.via_head);
          })

      there : st.reached u ≡ true → Earlier g new u
      there m =
          let a = I.via_earlier u m n in
          let k = via_still u m in
          let y = mate (head g (st.via u)) in
          record {
            tail_reached = rw k (reached_still (tail g (st.via u)) a.tail_reached);
            tail_earlier = rw (k, birth_still u m, birth_still (tail g (st.via u)) a.tail_reached) a.tail_earlier;
            head_mate =
                rw k
                (⊎_elim (λ q. inl q) (λ q. inr (reached_still y q.0, rw (birth_still u m, birth_still y q.0) q.1)) a.head_mate);
          }

  unreached_pair : (u : ℕ) → new.reached (new.base u) ≡ false → (u ≡ new.base u) ⊎ (u ≡ mate (new.base u))
  unreached_pair u l =
      ⊎_elim (λ a. true_false N.reached_head (rw (base_pair u a) at l))
      (λ o.
      rw (N.base_other u o)
      (I.unreached_pair u
      (by_test (st.reached (st.base u)) (λ t. true_false (reached_still (st.base u) t) (rw (N.base_other u o) at l)) (λ t. t))))
      (pair_or_other w u)

  pub tree_step_keeps : Invariant g new
  tree_step_keeps =
      record {
        source_reached = reached_still g.source I.source_reached;
        source_base = base_still g.source I.source_reached ∙ I.source_base;
        source_first = source_first;
        source_via = via_still g.source I.source_reached ∙ I.source_via;
        base_mate = base_mate;
        base_base = base_base;
        path = path;
        whole = whole;
        base_arc = base_arc;
        before_clock = before_clock;
        via_earlier = via_earlier;
        unreached_pair = unreached_pair;
      }
