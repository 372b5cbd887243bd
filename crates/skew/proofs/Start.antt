-- The state in which the source alone is reached has the invariant.
--   start_keeps                           every such state
--   start_state, start_state_started      one such state
use mathlib.Core.Path.{◌≡◌, refl, sym, ap, subst, ◌∙◌}
use mathlib.Core.Logic.{◌⊎◌, inl, inr, ⊎_elim}
use mathlib.Core.Bool.{true, ◌||◌}
use mathlib.Core.List.{[]}
use Prim.Native.Nat.{ℕ, ◌-◌, ◌%◌}
use native.Mathlib.Omega.{arith}
use lib.Dec.{eqb}
use lib.ListN.{length}
use borrow.Author.Tests.{eqb-true, eq-eqb, ne_eqb}
use Rattle.counting.specs.Tests.{pick}
use Rattle.skew.specs.Graph.{Graph, mate}
use Rattle.skew.specs.Segments.{done, LabelledPath}
use Rattle.skew.specs.Search.{State, IsBase, InFragment, Plain, Invariant, Started}
use Rattle.counting.proofs.Booleans.{or_right, pick_true, true_false, same_or}
use Rattle.skew.proofs.Mates.{mate_is, pair_or_other, pair_mate, other_mate}
use Rattle.skew.proofs.RegularPaths.{path_empty}

module _ (g : Graph) (st : State) (B : Started g st) where
  abbrev s : ℕ
  s = g.source

  even_pair : (u : ℕ) → (u ≡ u - u % 2) ⊎ (u ≡ mate (u - u % 2))
  even_pair u = ⊎_elim (λ q. inl (omega arith)) (λ q. inr (omega (arith, mate_is (u - u % 2)))) (same_or (u % 2) 0)

  plain : Plain st s
  plain u q =
      ⊎_elim (λ a. a) (λ o. let k : u - u % 2 ≡ s = sym (B.base_other u o) ∙ q in rw k at (even_pair u)) (pair_or_other s u)

  base_is : (u : ℕ) → st.reached u ≡ true → st.base u ≡ s
  base_is u l = B.base_source u (inl (B.reached_only u l))

  base_mate : (u : ℕ) → st.base (mate u) ≡ st.base u
  base_mate u =
      ⊎_elim (λ a. B.base_source (mate u) (pair_mate s u a) ∙ sym (B.base_source u a))
      (λ o. B.base_other (mate u) (other_mate s u o) ∙ omega (arith, mate_is u) ∙ sym (B.base_other u o)) (pair_or_other s u)

  abbrev Path : ℕ → ℕ → Type 0
  Path b u = LabelledPath g (InFragment st b) st.reached st.via b u

  path : (u : ℕ) → st.reached u ≡ true → Path (st.base u) u
  path u l =
      subst (λ (b : ℕ). Path b u) (sym (base_is u l))
      (subst (λ (k : ℕ). Path s k) (sym (B.reached_only u l)) ([], path_empty s (B.base_source s (inl refl)), done))

  whole : (b u : ℕ) → IsBase st b → st.base u ≡ b → (st.reached u ≡ true) ⊎ (Plain st b × (u ≡ mate b))
  whole b u r q =
      let bs = B.reached_only b r.reached in
      ⊎_elim (λ k. inl (rw k B.reached_source))
      (λ k. inr (subst (λ (c : ℕ). Plain st c) (sym bs) plain, k ∙ ap mate (sym bs))) (plain u (q ∙ bs))

  pub start_keeps : Invariant g st
  start_keeps =
      record {
        source_reached = B.reached_source;
        source_base = B.base_source s (inl refl);
        source_first = λ u l. rw (B.reached_only u l) (omega arith);
        source_via = B.via_source;
        base_mate = base_mate;
        base_base = λ u l. rw (base_is u l) (record { reached = B.reached_source; self = B.base_source s (inl refl) });
        path = path;
        whole = whole;
        base_arc = λ b r n. absurd (n (B.reached_only b r.reached));
        before_clock = λ u l. rw (B.reached_only u l) B.before_clock;
        via_earlier = λ u l n. absurd (n (B.reached_only u l));
        unreached_pair = λ u l.
            ⊎_elim (λ a. true_false B.reached_source (rw (B.base_source u a) at l)) (λ o. rw (B.base_other u o) (even_pair u))
            (pair_or_other s u);
      }

pub start_state : Graph → State
start_state g =
    record {
      reached = λ (u : ℕ). eqb u g.source;
      base = λ (u : ℕ). pick (eqb u g.source || eqb u (mate g.source)) g.source (u - u % 2);
      via = λ (u : ℕ). length g.arcs;
      birth = λ (u : ℕ). 0;
      clock = 1;
    }

pub start_state_started : (g : Graph) → Started g (start_state g)
unfolding start_state
start_state_started g =
    let s = g.source in
    record {
      reached_source = eq-eqb s s refl;
      reached_only = λ u l. eqb-true u s l;
      base_source = λ u.
          ⊎_elim (λ q. rw (eq-eqb u s q)) (λ q. pick_true s (u - u % 2) (or_right (eqb u s) (eqb u (mate s)) (eq-eqb u (mate s) q)));
      base_other = λ u n. rw (ne_eqb u s n.0, ne_eqb u (mate s) n.1);
      via_source = refl;
      before_clock = omega arith;
    }
