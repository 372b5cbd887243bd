-- The bud step keeps the invariant (BUD): the fragments of a set C of bases become part of the bud of b, where the new labels give regular paths.
--   bud_step_keeps      the invariant holds afterwards
use mathlib.Core.Path.{◌≡◌, refl, sym, ap, subst, ◌∙◌}
use mathlib.Core.Logic.{◌⊎◌, inl, inr, ◌≢◌, ⊎_elim}
use mathlib.Core.Bool.{Bool, true, false, ◌||◌}
use Prim.Native.Nat.{ℕ, ◌≤◌, ◌<◌}
use native.Mathlib.Omega.{arith}
use lib.Dec.{eqb}
use borrow.Author.Tests.{eqb-true}
use Rattle.skew.specs.Graph.{Graph, mate}
use Rattle.skew.specs.Paths.{tail, head}
use Rattle.skew.specs.Segments.{LabelledPath}
use Rattle.skew.specs.Search.{State, IsBase, InFragment, Plain, BaseArc, Earlier, Invariant}
use Rattle.skew.specs.Steps.{InUnion, reached_after, BudStep, Absorbable}
use Rattle.counting.proofs.Booleans.{or_cases, by_test, true_false, same_or}
use Rattle.skew.proofs.RegularPaths.{path_widen}
use Rattle.skew.proofs.Segments.{seg_mono}

module _ (g : Graph) (st : State) (I : Invariant g st) (C : ℕ → Bool) (b : ℕ) (via : ℕ → ℕ) (K : Absorbable g st C b via)
    (new : State) (N : BudStep st C b via new) where
  -- WHAT IS AS IT WAS
  via_same : (u : ℕ) → st.reached u ≡ true → new.via u ≡ st.via u
  via_same u l = N.via_is u ∙ K.via_old u l

  base_b : (u : ℕ) → st.base u ≡ b → new.base u ≡ b
  base_b u q = N.base_out u (rw q K.out) ∙ q

  in_bud : (x : ℕ) → InUnion st C b x → new.base x ≡ b
  in_bud x (inl q) = base_b x q
  in_bud x (inr q) = N.base_in x q

  base_is : IsBase new b
  base_is = record { reached = N.reached_still b K.base_is.reached; self = base_b b K.base_is.self }

  mate_base : (u : ℕ) → u ≡ mate b → st.base u ≡ b
  mate_base u q = ap st.base q ∙ I.base_mate b ∙ K.base_is.self

  -- OLD OR NEW
  after_reached : (u : ℕ) → reached_after st C b u ≡ true → new.reached u ≡ true
  after_reached u h =
      ⊎_elim (N.reached_still u)
      (λ k.
      ⊎_elim (N.reached_in u) (λ q. rw (eqb-true u (mate b) q) N.reached_mate) (or_cases (C (st.base u)) (eqb u (mate b)) k))
      (or_cases (st.reached u) (C (st.base u) || eqb u (mate b)) h)

  outside : (u : ℕ) → new.reached u ≡ true → C (st.base u) ≡ false → (st.reached u ≡ true) ⊎ (u ≡ mate b)
  outside u l o = ⊎_elim (λ a. inl a) (⊎_elim (λ t. true_false t o) (λ q. inr q)) (N.reached_back u l)

  -- another fragment of the new state was one before
  fragment_back : (c u : ℕ) → c ≢ b → new.base u ≡ c → (C (st.base u) ≡ false) × (st.base u ≡ c)
  fragment_back c u n q =
      by_test (C (st.base u)) (λ t. absurd (n (sym q ∙ N.base_in u t))) (λ t. (t, sym (N.base_out u t) ∙ q))

  base_back : (c : ℕ) → IsBase new c → IsBase st c
  base_back c r = ⊎_elim (λ q. subst (λ (z : ℕ). IsBase st z) (sym q) K.base_is) other (same_or c b)
    where
      other : c ≢ b → IsBase st c
      other n =
          let o = fragment_back c c n r.self in
          record {
            reached = ⊎_elim (λ m. m) (λ q. absurd (n (sym o.1 ∙ mate_base c q))) (outside c r.reached o.0);
            self = o.1;
          }

  -- THE CLAUSES
  source_base : new.base g.source ≡ g.source
  source_base =
      let o : C g.source ≡ false = by_test (C g.source) (λ t. absurd (K.not_source g.source t refl)) (λ t. t) in
      N.base_out g.source (subst (λ (z : ℕ). C z ≡ false) (sym I.source_base) o) ∙ I.source_base

  source_first : (u : ℕ) → new.reached u ≡ true → new.birth g.source ≤ new.birth u
  source_first u l =
      let s = N.birth_old g.source I.source_reached in
      by_test (st.reached u) (λ m. rw (N.birth_old u m, s) (I.source_first u m))
      (λ m. rw (N.birth_new u m l, s) (omega (arith, I.before_clock g.source I.source_reached)))

  base_mate : (u : ℕ) → new.base (mate u) ≡ new.base u
  base_mate u =
      by_test (C (st.base u)) (λ t. N.base_in (mate u) (rw (I.base_mate u) t) ∙ sym (N.base_in u t))
      (λ t. N.base_out (mate u) (rw (I.base_mate u) t) ∙ I.base_mate u ∙ sym (N.base_out u t))

  base_base : (u : ℕ) → new.reached u ≡ true → IsBase new (new.base u)
  base_base u l =
      by_test (C (st.base u)) (λ t. rw (N.base_in u t) base_is)
      (λ t. ⊎_elim (still t) (λ q. rw (base_b u (mate_base u q)) base_is) (outside u l t))
    where
      still : C (st.base u) ≡ false → st.reached u ≡ true → IsBase new (new.base u)
      still t m =
          let r = I.base_base u m in
          rw (N.base_out u t)
          (record {
            reached = N.reached_still (st.base u) r.reached;
            self = N.base_out (st.base u) (rw r.self t) ∙ r.self;
          })

  abbrev Path : ℕ → ℕ → Type 0
  Path c u = LabelledPath g (InFragment new c) new.reached new.via c u

  abbrev BudPath : ℕ → Type 0
  BudPath x = LabelledPath g (InUnion st C b) (reached_after st C b) via b x

  path : (u : ℕ) → new.reached u ≡ true → Path (new.base u) u
  path u l =
      by_test (C (st.base u)) (λ t. in_new u (N.base_in u t) (K.path u t)) (λ t. ⊎_elim (old t) of_mate (outside u l t))
    where
      in_new : (x : ℕ) → new.base x ≡ b → BudPath x → Path (new.base x) x
      in_new x q r =
          subst (λ (c : ℕ). Path c x) (sym q)
          (r.0, path_widen in_bud r.1, seg_mono (λ y k. (after_reached y k, N.via_is y)) r.2)

      old : C (st.base u) ≡ false → st.reached u ≡ true → Path (new.base u) u
      old t m =
          let r = I.path u m in
          subst (λ (c : ℕ). Path c u) (sym (N.base_out u t)) (
            r.0,
            path_widen (λ x q. N.base_out x (rw q t) ∙ q) r.1,
            seg_mono (λ y k. (N.reached_still y k, via_same y k)) r.2,
          )

      of_mate : u ≡ mate b → Path (new.base u) u
      of_mate q =
          ⊎_elim (λ m. old (rw (mate_base u q) K.out) (rw q m))
          (λ r. in_new u (base_b u (mate_base u q)) (subst (λ (k : ℕ). BudPath k) (sym q) r)) K.path_mate

  whole : (c u : ℕ) → IsBase new c → new.base u ≡ c → (new.reached u ≡ true) ⊎ (Plain new c × (u ≡ mate c))
  whole c u r q = ⊎_elim here there (same_or c b)
    where
      here : c ≡ b → (new.reached u ≡ true) ⊎ (Plain new c × (u ≡ mate c))
      here k =
          by_test (C (st.base u)) (λ t. inl (N.reached_in u t))
          (λ t.
          ⊎_elim (λ m. inl (N.reached_still u m)) (λ m. inl (rw m.1 N.reached_mate))
          (I.whole b u K.base_is (sym (N.base_out u t) ∙ q ∙ k)))

      there : c ≢ b → (new.reached u ≡ true) ⊎ (Plain new c × (u ≡ mate c))
      there n =
          ⊎_elim (λ m. inl (N.reached_still u m)) (λ m. inr ((λ x j. m.0 x (fragment_back c x n j).1), m.1))
          (I.whole c u (base_back c r) (fragment_back c u n q).1)

  base_arc : (c : ℕ) → IsBase new c → c ≢ g.source → BaseArc g new c
  base_arc c r n =
      let s = base_back c r in
      let a = I.base_arc c s n in
      let x = tail g (st.via c) in
      let k = via_same c s.reached in
      let low : (st.reached (new.base x) ≡ true) × (st.birth (new.base x) < st.birth c) =
      by_test (C (st.base x))
      (λ t. rw (N.base_in x t) (K.base_is.reached, omega (arith, K.births (st.base x) t, a.base_earlier)))
      (λ t. rw (N.base_out x t) ((I.base_base x a.tail_reached).reached, a.base_earlier)) in
      record {
        is_arc = rw k a.is_arc;
        head_is = rw k a.head_is;
        tail_reached = rw k (N.reached_still x a.tail_reached);
        base_earlier = rw (k, N.birth_old c s.reached, N.birth_old (new.base x) low.0) low.1;
      }

  before_clock : (u : ℕ) → new.reached u ≡ true → new.birth u < new.clock
  before_clock u l =
      by_test (st.reached u) (λ m. rw (N.birth_old u m, N.clock_next) (omega (arith, I.before_clock u m)))
      (λ m. rw (N.birth_new u m l, N.clock_next) (omega arith))

  via_earlier : (u : ℕ) → new.reached u ≡ true → u ≢ g.source → Earlier g new u
  via_earlier u l n = by_test (st.reached u) there here
    where
      there : st.reached u ≡ true → Earlier g new u
      there m =
          let a = I.via_earlier u m n in
          let k = via_same u m in
          let y = mate (head g (st.via u)) in
          record {
            tail_reached = rw k (N.reached_still (tail g (st.via u)) a.tail_reached);
            tail_earlier = rw (k, N.birth_old u m, N.birth_old (tail g (st.via u)) a.tail_reached) a.tail_earlier;
            head_mate =
                rw k
                (⊎_elim (λ q. inl q) (λ q. inr (N.reached_still y q.0, rw (N.birth_old u m, N.birth_old y q.0) q.1))
                a.head_mate);
          }

      here : st.reached u ≡ false → Earlier g new u
      here f =
          let e = K.via_new u (⊎_elim (λ m. true_false m f) (λ m. m) (N.reached_back u l)) f in
          let k = N.via_is u in
          let x = tail g (via u) in
          let y = mate (head g (via u)) in
          let c = N.birth_new u f l in
          record {
            tail_reached = rw k (N.reached_still x e.tail_reached);
            tail_earlier = rw (k, c, N.birth_old x e.tail_reached) (I.before_clock x e.tail_reached);
            head_mate =
                rw k (inr (N.reached_still y e.mate_reached, rw (c, N.birth_old y e.mate_reached) (I.before_clock y e.mate_reached)));
          }

  unreached_pair : (u : ℕ) → new.reached (new.base u) ≡ false → (u ≡ new.base u) ⊎ (u ≡ mate (new.base u))
  unreached_pair u l =
      by_test (C (st.base u)) (λ t. true_false base_is.reached (rw (N.base_in u t) at l))
      (λ t.
      rw (N.base_out u t)
      (I.unreached_pair u
      (by_test (st.reached (st.base u)) (λ m. true_false (N.reached_still (st.base u) m) (rw (N.base_out u t) at l)) (λ m. m))))

  pub bud_step_keeps : Invariant g new
  bud_step_keeps =
      record {
        source_reached = N.reached_still g.source I.source_reached;
        source_base = source_base;
        source_first = source_first;
        source_via = via_same g.source I.source_reached ∙ I.source_via;
        base_mate = base_mate;
        base_base = base_base;
        path = path;
        whole = whole;
        base_arc = base_arc;
        before_clock = before_clock;
        via_earlier = via_earlier;
        unreached_pair = unreached_pair;
      }
