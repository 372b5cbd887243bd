-- Looking at arcs: each asks for its step when it is looked at; when the arcs of all reached nodes were looked at, the state is closed.
--   looked_none, looked_fewer      at no arc yet; at fewer arcs
--   looked_more                    at one arc more, after its step
--   looked_closed                  at every arc of a reached node: the state is closed
--   scan_start, scan_switch, scan_past, scan_look, scan_done, scan_closed      the same, node by node
use mathlib.Core.Path.{◌≡◌, sym, subst}
use mathlib.Core.Logic.{◌⊎◌, inl, inr, ⊎_elim}
use mathlib.Core.Bool.{Bool, true}
use Prim.Native.Nat.{ℕ, ◌+◌, ◌≤◌, ◌<◌}
use native.Mathlib.Omega.{arith}
use lib.Dec.{ltb}
use lib.ListN.{length}
use borrow.Author.Tests.{ltb-true, ltb-false}
use Rattle.skew.specs.Graph.{Graph, mate}
use Rattle.skew.specs.Paths.{tail, head, SkewSymmetric, WellFormed}
use Rattle.skew.specs.Search.{State, Invariant}
use Rattle.skew.specs.Steps.{SettledArc, Touched, Closed}
use Rattle.skew.specs.Scan.{Looked, Scanning}
use Rattle.counting.proofs.Booleans.{by_test, same_or}
use Rattle.skew.proofs.Mates.{mate_mate}
use Rattle.skew.proofs.Paths.{mate_arc}
use Rattle.skew.proofs.Settled.{settled_mate}

module _ (g : Graph) (wf : WellFormed g) where
  abbrev d : SkewSymmetric g
  d = wf.symmetric

  pub looked_none : {looked : ℕ → Type 0} (st : State) → ((i : ℕ) → i < length g.arcs → looked i → ⊥) → Looked g st looked
  looked_none st none =
      record {
        reached = λ i h s. absurd (none i h s);
        touched = λ i h s. absurd (none i h s);
        settled = λ i h s t. absurd (none i h s);
      }

  pub looked_fewer : {looked looked' : ℕ → Type 0} (st : State) → ((i : ℕ) → i < length g.arcs → looked' i → looked i) → Looked g st looked →
      Looked g st looked'
  looked_fewer st less L =
      record {
        reached = λ i h s. L.reached i h (less i h s);
        touched = λ i h s. L.touched i h (less i h s);
        settled = λ i h s t. L.settled i h (less i h s) (less (mate i) (mate_arc g d i h).0 t);
      }

  -- the arc a was looked at and its step taken; what is reached and settled stays so
  module _ {looked looked' : ℕ → Type 0} (st new : State) (I : Invariant g new) (a : ℕ)
      (more : (i : ℕ) → looked' i → looked i ⊎ ((i ≡ a) × (st.reached (tail g i) ≡ true))) (L : Looked g st looked)
      (stay : (u : ℕ) → st.reached u ≡ true → new.reached u ≡ true)
      (still : (j : ℕ) → j < length g.arcs → SettledArc g st j → SettledArc g new j) (touch : Touched g new a)
      (settle : st.reached (mate (head g a)) ≡ true → SettledArc g new a) where
    tail_reached : (i : ℕ) → i < length g.arcs → looked' i → st.reached (tail g i) ≡ true
    tail_reached i h s = ⊎_elim (L.reached i h) (λ q. q.1) (more i s)

    here : (i : ℕ) → i < length g.arcs → looked' (mate i) → i ≡ a → SettledArc g new i
    here i h t q =
        let r = mate_arc g d i h in
        let m : st.reached (mate (head g i)) ≡ true = subst (λ (y : ℕ). st.reached y ≡ true) r.1 (tail_reached (mate i) r.0 t) in
        subst (λ (k : ℕ). SettledArc g new k) (sym q) (settle (rw q at m))

    there : (i : ℕ) → i < length g.arcs → looked' i → mate i ≡ a → SettledArc g new i
    there i h s q =
        let k = (mate_arc g d i h).0 in
        subst (λ (j : ℕ). SettledArc g new j) (mate_mate i)
        (settled_mate g d new I (mate i) k (here (mate i) k (subst looked' (sym (mate_mate i)) s) q))

    pub looked_more : Looked g new looked'
    looked_more =
        record {
          reached = λ i h s. stay (tail g i) (tail_reached i h s);
          touched = λ i h s.
              ⊎_elim
              (λ t. ⊎_elim (λ l. inl (stay (head g i) l)) (λ l. inr (stay (mate (head g i)) l)) (L.touched i h t))
              (λ q. rw q.0 touch) (more i s);
          settled = λ i h s t.
              ⊎_elim (λ p. ⊎_elim (λ q. still i h (L.settled i h p q)) (λ q. there i h s q.0) (more (mate i) t)) (λ q. here i h t q.0) (more i s);
        }

  pub looked_closed : {looked : ℕ → Type 0} (st : State) → ((i : ℕ) → i < length g.arcs → st.reached (tail g i) ≡ true → looked i) →
      Looked g st looked → Closed g st
  looked_closed st every L =
      record {
        touched = λ i h l. L.touched i h (every i h l);
        settled = λ i h l m.
            let r = mate_arc g d i h in
            (L.settled i h (every i h l) (every (mate i) r.0 (subst (λ (y : ℕ). st.reached y ≡ true) (sym r.1) m))).settled;
      }

  -- NODE BY NODE
  pub scan_start : (st : State) (T : ℕ → Bool) (x : ℕ) → ((u : ℕ) → T u ≡ true → ⊥) → Scanning g st T x 0
  scan_start st T x none = looked_none st (λ i h. ⊎_elim (none (tail g i)) (λ t. omega (arith, t.1)))

  -- before a node's first arc
  pub scan_switch : (st : State) (T : ℕ → Bool) (x y : ℕ) → Scanning g st T x 0 → Scanning g st T y 0
  scan_switch st T x y = looked_fewer st (λ i h. ⊎_elim (λ t. inl t) (λ t. absurd (omega (arith, t.1))))

  -- other nodes' arcs are passed over
  pub scan_past : (st : State) (T : ℕ → Bool) (x a b : ℕ) → ((j : ℕ) → a ≤ j → j < b → tail g j ≡ x → ⊥) → Scanning g st T x a →
      Scanning g st T x b
  scan_past st T x a b none =
      looked_fewer st
      (λ i h. ⊎_elim (λ t. inl t)
      (λ t.
      by_test (ltb i a) (λ l. inr (t.0, ltb-true i a l)) (λ l. absurd (none i (ltb-false i a l) t.1 t.0))))

  pub scan_look : (st new : State) → Invariant g new → (T : ℕ → Bool) (x a : ℕ) → st.reached x ≡ true → Scanning g st T x a →
      ((u : ℕ) → st.reached u ≡ true → new.reached u ≡ true) →
      ((j : ℕ) → j < length g.arcs → SettledArc g st j → SettledArc g new j) → Touched g new a →
      (st.reached (mate (head g a)) ≡ true → SettledArc g new a) → Scanning g new T x (a + 1)
  scan_look st new I T x a lx =
      looked_more st new I a
      (λ i. ⊎_elim (λ t. inl (inl t))
      (λ t. ⊎_elim (λ q. inr (q, rw t.0 lx)) (λ q. inl (inr (t.0, omega (arith, t.1, q)))) (same_or i a)))

  -- the node's last arc is behind: it is scanned
  pub scan_done : (st : State) (T T' : ℕ → Bool) (x y : ℕ) → ((u : ℕ) → T' u ≡ true → (T u ≡ true) ⊎ (u ≡ x)) →
      Scanning g st T x (length g.arcs) → Scanning g st T' y 0
  scan_done st T T' x y back =
      looked_fewer st (λ i h. ⊎_elim (λ t. ⊎_elim (λ k. inl k) (λ k. inr (k, h)) (back (tail g i) t)) (λ t. absurd (omega (arith, t.1))))

  pub scan_closed : (st : State) (T : ℕ → Bool) (x : ℕ) → ((u : ℕ) → st.reached u ≡ true → T u ≡ true) → Scanning g st T x 0 → Closed g st
  scan_closed st T x every = looked_closed st (λ i h l. inl (every (tail g i) l))
