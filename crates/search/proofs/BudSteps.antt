-- The bud step on the tables.
--   marks_fit                  after an ascent bases, and the absorbing base's mate, stand within the marks
--   bud_stepped, bud_stepped_old    births and bases mapped after an ascent: a bud step, with that mate's birth stored where it had none
use mathlib.Core.Path.{◌≡◌, refl, sym, subst, ◌∙◌}
use mathlib.Core.Logic.{◌⊎◌, inl, inr, ◌≢◌, ⊎_elim}
use mathlib.Core.Bool.{Bool, true, false}
use mathlib.Core.List.{List}
use Prim.Native.Nat.{ℕ, ◌+◌, ◌-◌, ◌/◌, ◌%◌, ◌≤◌, ◌<◌}
use native.Mathlib.Numerals.{add-one}
use native.Mathlib.Omega.{arith}
use lib.Dec.{ltb, eqb}
use lib.ListN.{length, get_or, set, length-set, get_or-eq_default}
use lib.Seq.{get_or-set_same, get_or-set_other, set-get_or}
use borrow.Author.Tests.{eqb-true, eq-eqb, ne_eqb, ltb-true, lt-ltb, ltb-false}
use Rattle.counting.specs.Tests.{pick}
use Rattle.counting.specs.Loops.{Mapped}
use Rattle.counting.proofs.Booleans.{by_test, true_false, same_or}
use Rattle.counting.proofs.Membership.{get_d_default}
use Rattle.skew.specs.Graph.{Graph, mate, nodes}
use Rattle.skew.specs.Search.{State}
use Rattle.skew.specs.Steps.{BudStep}
use Rattle.skew.proofs.Mates.{mate_below}
use Rattle.skew.proofs.BudStep.{bud_step_keeps}
use Rattle.skew.proofs.Measure.{bud_step_less}
use Rattle.skew.proofs.Settled.{bud_step_settled, bud_step_settles}
use Rattle.search.specs.Tables.{Labels, labels}
use Rattle.search.specs.State.{state_in, StateHeld, SearchHeld, absorbed_in, vias_of}
use Rattle.search.specs.Steps.{birth_after, births_after, base_after, bases_after, Bridging, MarksFit, Ascended, born_before, BudStepped}
use Rattle.search.proofs.States.{not_reached, reached_is, unreached_is, base_at}

-- a birth mapped twice
twice : (birth : ℕ) (mark : Bool) (k : ℕ) → 0 < k → birth_after (birth_after birth mark k) true k ≡ birth_after birth true k
twice birth mark k l =
    by_test (eqb birth 0)
    (λ t. by_test mark (λ u. rw (t, u, ne_eqb k 0 (λ q. omega arith))) (λ u. rw (t, u, t)))
    (λ t. rw (t, t))

module _ {g : Graph} {L : Labels} {k i : ℕ} {N : Labels} {marks : List Bool} {d : ℕ} (B : Bridging g L k i) (A : Ascended g L k i N marks d) where
  abbrev vias : List ℕ
  vias = N.vias

  abbrev S : SearchHeld g L k
  S = B.joining.leaving.held

  abbrev st : State
  st = state_in L k

  abbrev H : StateHeld g L k
  H = S.state

  abbrev C : ℕ → Bool
  C = absorbed_in marks

  mate_node : mate d < nodes g
  mate_node = mate_below d (nodes g) (omega arith) A.is_node

  pub marks_fit : MarksFit N marks d
  marks_fit =
      let b = A.births_same in
      let s = A.bases_same in
      record {
        pairs = rw (b, s) (omega (arith, H.births_long, H.bases_long));
        marks_long = rw b (omega (arith, H.births_long, A.marks_long));
        base_marked = rw s (λ j l. omega (arith, H.base_node j (omega (arith, H.bases_long)), A.marks_long));
        small = omega (arith, A.is_node, S.table.pairs_few);
        mate_small = omega (arith, mate_node, S.table.pairs_few);
        mate_in_births = rw b (omega (arith, mate_node, H.births_long));
      }

  -- what is no node has no mark
  no_mark : (u : ℕ) → nodes g ≤ u → C (st.base u) ≡ false
  no_mark u l =
      let e : st.base u ≡ u - u % 2 = get_or-eq_default L.bases (u - u % 2) (omega (arith, H.bases_long)) in
      rw e (get_or-eq_default marks false (omega (arith, A.marks_long)))

  -- births and bases mapped, and the birth of the absorbing base's mate stored
  module _ {births₁ bases' : List ℕ} {x : ℕ} (MB : Mapped (births_after L.bases marks k) L.births births₁ (length L.births))
      (MS : Mapped (bases_after marks d) L.bases bases' (length L.bases)) (x_is : x ≡ birth_after (get_or births₁ (mate d) 0) true k) where
    abbrev births' : List ℕ
    births' = set births₁ (mate d) x

    abbrev new : State
    new = state_in (labels births' vias bases') (k + 1)

    -- the mark by which a birth is mapped
    abbrev mark : ℕ → Bool
    mark u = pick (eqb u (mate d)) true (C (st.base u))

    mark_in : (u : ℕ) → C (st.base u) ≡ true → mark u ≡ true
    mark_in u h = by_test (eqb u (mate d)) (λ t. rw t) (λ t. rw t h)

    mark_mate : mark (mate d) ≡ true
    mark_mate = rw (eq-eqb (mate d) (mate d) refl)

    mark_back : (u : ℕ) → mark u ≡ true → (C (st.base u) ≡ true) ⊎ (u ≡ mate d)
    mark_back u h = by_test (eqb u (mate d)) (λ t. inr (eqb-true u (mate d) t)) (λ t. inl (rw t at h))

    first_birth : (u : ℕ) → u < nodes g → get_or births₁ u 0 ≡ birth_after (get_or L.births u 0) (C (st.base u)) k
    first_birth u l = MB.done u (omega (arith, H.births_long)) ∙ rw (base_at H u l)

    birth_is : (u : ℕ) → get_or births' u 0 ≡ birth_after (get_or L.births u 0) (mark u) k
    birth_is u =
        by_test (ltb u (nodes g))
        (λ t.
        ⊎_elim
        (λ (q : u ≡ mate d).
        rw (q, eq-eqb (mate d) (mate d) refl)
        (get_or-set_same births₁ (mate d) x 0 (omega (arith, MB.long, H.births_long, mate_node)) ∙ x_is ∙
        rw (first_birth (mate d) mate_node) (twice (get_or L.births (mate d) 0) (C (st.base (mate d))) k H.clock_late)))
        (λ n. rw (ne_eqb u (mate d) n) (get_or-set_other births₁ (mate d) u x 0 n ∙ first_birth u (ltb-true u (nodes g) t))) (same_or u (mate d)))
        (λ t.
        let l = ltb-false u (nodes g) t in
        let n : u ≢ mate d = λ q. omega (arith, mate_node) in
        let b : get_or L.births u 0 ≡ 0 = get_or-eq_default L.births 0 (omega (arith, H.births_long)) in
        rw (ne_eqb u (mate d) n, no_mark u l, b)
        (get_or-set_other births₁ (mate d) u x 0 n ∙ MB.rest u (omega (arith, H.births_long)) ∙ b))

    birth_kept : (u : ℕ) → st.reached u ≡ true → get_or births' u 0 ≡ get_or L.births u 0
    birth_kept u l = birth_is u ∙ rw (ne_eqb (get_or L.births u 0) 0 (λ q. omega (arith, reached_is (get_or L.births u 0) l)))

    birth_new : (u : ℕ) → st.reached u ≡ false → mark u ≡ true → get_or births' u 0 ≡ k
    birth_new u f t = birth_is u ∙ rw (unreached_is (get_or L.births u 0) f, t)

    birth_none : (u : ℕ) → st.reached u ≡ false → mark u ≡ false → get_or births' u 0 ≡ 0
    birth_none u f t = birth_is u ∙ rw (unreached_is (get_or L.births u 0) f, t)

    reached_still : (u : ℕ) → st.reached u ≡ true → new.reached u ≡ true
    reached_still u l = rw (birth_kept u l) l

    reached_marked : (u : ℕ) → mark u ≡ true → new.reached u ≡ true
    reached_marked u t = by_test (st.reached u) (reached_still u) (λ f. rw (birth_new u f t) (lt-ltb 0 k H.clock_late))

    new_marked : (u : ℕ) → st.reached u ≡ false → new.reached u ≡ true → mark u ≡ true
    new_marked u f l = by_test (mark u) (λ t. t) (λ t. true_false l (not_reached (get_or births' u 0) (birth_none u f t)))

    base_is : (u : ℕ) → new.base u ≡ base_after (st.base u) (C (st.base u)) d
    base_is u =
        by_test (ltb u (nodes g))
        (λ t.
        let l = ltb-true u (nodes g) t in
        let h : u / 2 < length L.bases = omega (arith, H.bases_long) in
        rw (base_at H u l) (get_d_default bases' (u / 2) (u - u % 2) 0 (omega (arith, MS.long)) ∙ MS.done (u / 2) h))
        (λ t.
        let l = ltb-false u (nodes g) t in
        rw (no_mark u l)
        (get_or-eq_default bases' (u - u % 2) (omega (arith, H.bases_long, MS.long)) ∙
        sym (get_or-eq_default L.bases (u - u % 2) (omega (arith, H.bases_long)))))

    step : BudStep st C d (vias_of vias) new
    step =
        record {
          reached_in = λ u t. reached_marked u (mark_in u t);
          reached_mate = reached_marked (mate d) mark_mate;
          reached_still = reached_still;
          reached_back = λ u l. by_test (st.reached u) (λ t. inl t) (λ f. inr (mark_back u (new_marked u f l)));
          base_in = λ u t. base_is u ∙ rw t;
          base_out = λ u t. base_is u ∙ rw t;
          via_is = λ u. refl;
          birth_old = birth_kept;
          birth_new = λ u f l. birth_new u f (new_marked u f l);
          clock_next = add-one k;
        }

    born : (u : ℕ) → born_before births' k u ≡ st.reached u
    born u =
        by_test (st.reached u)
        (λ l. rw (birth_kept u l, ne_eqb (get_or L.births u 0) k (λ q. omega (arith, H.invariant.before_clock u l))))
        (λ f.
        rw f
        (by_test (mark u) (λ t. rw (birth_new u f t, eq-eqb k k refl))
        (λ t. rw (birth_none u f t, ne_eqb 0 k (λ q. omega (arith, H.clock_late))))))

    stepped : BudStepped g L k i (labels births' vias bases')
    stepped =
        let wf = S.table.well_formed in
        record {
          state =
              record {
                invariant = bud_step_keeps g st H.invariant C d (vias_of vias) A.absorbable new step;
                births_long = length-set births₁ (mate d) x ∙ MB.long ∙ H.births_long;
                vias_long = A.vias_long;
                bases_long = MS.long ∙ H.bases_long;
                base_node = λ j l.
                    rw (MS.done j (omega (arith, H.bases_long)))
                    (by_test (C (get_or L.bases j 0)) (λ t. rw t A.is_node) (λ t. rw t (H.base_node j l)));
                clock_late = omega arith;
                clock_bound =
                    omega (arith, H.clock_bound, bud_step_less g wf st H.invariant C d (vias_of vias) A.absorbable new step A.some);
              };
          later =
              record {
                reached_still = reached_still;
                settled_still = bud_step_settled g wf.symmetric st H.invariant C d (vias_of vias) A.absorbable new step A.parents;
              };
          settled =
              bud_step_settles g wf.symmetric st H.invariant C d (vias_of vias) A.absorbable new step A.parents i
              B.joining.leaving.tail_reached B.joining.mate_reached A.tail_in A.head_in;
          born = born;
        }

  -- the mate's birth is stored where it has none
  module _ {births₁ bases' : List ℕ} {m : ℕ} (MB : Mapped (births_after N.bases marks k) N.births births₁ (length N.births))
      (MS : Mapped (bases_after marks d) N.bases bases' (length N.bases)) (e : m ≡ mate d) where
    births : Mapped (births_after L.bases marks k) L.births births₁ (length L.births)
    births = rw (A.births_same, A.bases_same) at MB

    bases : Mapped (bases_after marks d) L.bases bases' (length L.bases)
    bases = rw A.bases_same at MS

    pub bud_stepped : ltb 0 (get_or births₁ m 0) ≡ false → BudStepped g L k i (labels (set births₁ m k) vias bases')
    bud_stepped f = rw e (stepped births bases (rw (unreached_is (get_or births₁ (mate d) 0) (rw e at f))))

    pub bud_stepped_old : ltb 0 (get_or births₁ m 0) ≡ true → BudStepped g L k i (labels births₁ vias bases')
    bud_stepped_old t =
        let n = reached_is (get_or births₁ (mate d) 0) (rw e at t) in
        subst (λ (l : List ℕ). BudStepped g L k i (labels l vias bases')) (set-get_or births₁ (mate d) 0)
        (stepped births bases (rw (ne_eqb (get_or births₁ (mate d) 0) 0 (λ q. omega (arith, n)))))
