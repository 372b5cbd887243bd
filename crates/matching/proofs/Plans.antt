-- Plans, and what a budget of searches comes to: from the lit pairs by augmenting paths, so many of them or until there is none.
--   BudgetParts, budgeted_parts, parts_budgeted     the test of a budget, part by part, both ways
--   Gained, more_pairs              a matching with so many pairs more; found from any other, as long as there is a gain
--   lit_few                         no more pairs are lit than the greatest number
--   augmented_budgeted              a matching with so many pairs more that keeps lit cameras lit: what a loop of searches ends with
--   budgeted_some                   so there is one for every budget
--   budgeted_plan, none_missing     with more searches than there is gain it is the plans that are budgeted, and no lane is missing
--   some_plan                       so every stock has a plan
--   gain_half, budgeted_bound       twice the gain are cameras; the greatest number is at most the pairs and the lanes missing
--   budgets_add                     a budget spent on what another came to
--   one_by_one_is                   the searches one by one come to the same
use mathlib.Core.Path.{◌≡◌, refl, sym, ap, subst, ◌∙◌}
use mathlib.Core.Logic.{◌≢◌}
use mathlib.Core.Bool.{Bool, true, ◌||◌, not}
use mathlib.Core.List.{List, [], ◌∷◌}
use Prim.Native.Nat.{ℕ, zero, suc, ◌+◌, ◌*◌, min, ◌≤◌, ◌<◌}
use native.Mathlib.Omega.{arith}
use lib.Dec.{ltb, eqb}
use lib.ListN.{length}
use borrow.Author.Tests.{eqb-true, eq-eqb, ltb-true, lt-ltb, le-ltb}
use Rattle.counting.specs.Tests.{below}
use Rattle.counting.specs.Lists.{In}
use Rattle.counting.specs.declared.Pair.{Pair}
use Rattle.counting.proofs.Booleans.{and_two, and_both, and_five, or_right, by_test, test_same, true_false}
use Rattle.counting.proofs.Membership.{all_each, each_all}
use Rattle.skew.specs.Graph.{has_path}
use Rattle.matching.specs.Stock.{Stock, same_pair, is_included, is_pairing, greatest, pairs_rise, same_pairs, keeps_lit, is_plan}
use Rattle.matching.specs.Budget.{gain, gained, missing, is_budgeted, search_one_by_one, OneByOneIs}
use Rattle.matching.specs.Matching.{FitsBelow, Matching, partner, lit_fits, pairs_in_order}
use Rattle.matching.specs.DoubledTable.{doubled_table}
use Rattle.matching.proofs.Pairs.{same_is, is_same, included_end, end_included}
use Rattle.matching.proofs.Rising.{rising_rise}
use Rattle.matching.proofs.Matchings.{list_matching, list_lights, list_count, lit_rising, lit_lights, lit_pairing, lit_count}
use Rattle.matching.proofs.InOrder.{pairs_lit, list_lit}
use Rattle.matching.proofs.Greatest.{greatest_bound, greatest_pairing}
use Rattle.matching.proofs.Augmentation.{path_more}
use Rattle.matching.proofs.Largest.{no_path_pairs}

-- A BUDGET'S TEST, PART BY PART
same_self : (ps : List Pair) → same_pairs ps ps ≡ true
unfolding same_pairs
same_self [] = refl
same_self (x ∷ xs) = and_both _ _ (is_same x x refl) (same_self xs)

same_pairs_lem : (ps qs : List Pair) → same_pairs ps qs ≡ true → ps ≡ qs
unfolding same_pairs
same_pairs_lem [] [] e = refl
same_pairs_lem [] (y ∷ ys) e = true_false e refl
same_pairs_lem (x ∷ xs) [] e = true_false e refl
same_pairs_lem (x ∷ xs) (y ∷ ys) e =
    let r = and_two (same_pair x y) (same_pairs xs ys) e in
    ap (λ (z : Pair). z ∷ xs) (same_is x y r.0) ∙ ap (λ (zs : List Pair). y ∷ zs) (same_pairs_lem xs ys r.1)

pub record BudgetParts (s : Stock) (b : ℕ) (ps : List Pair) : Type 0 where
  pub pairing : is_pairing s.fits ps ≡ true
  pub count : length ps ≡ length s.lit + gained s b
  pub keeps : (u : ℕ) → In u (below s.cameras) → is_included s.lit u ≡ true → is_included ps u ≡ true
  pub rises : pairs_rise ps ≡ true
  pub stays : gained s b ≡ 0 → ps ≡ s.lit

module _ (s : Stock) (b : ℕ) (ps : List Pair) where
  abbrev keeps : ℕ → Bool
  keeps u = not (is_included s.lit u) || is_included ps u

  pub budgeted_parts : is_budgeted s b ps ≡ true → BudgetParts s b ps
  budgeted_parts h =
      let r = and_five (is_pairing s.fits ps) (eqb (length ps) (length s.lit + gained s b)) (keeps_lit s ps) (pairs_rise ps) (not (eqb (gained s b) 0) || same_pairs ps s.lit) h in
      record {
        pairing = r.0;
        count = eqb-true _ _ r.1;
        keeps = λ u m t. rw t at (all_each keeps (below s.cameras) r.2 u m);
        rises = r.3;
        stays = λ z. let e = eq-eqb (gained s b) 0 z in same_pairs_lem ps s.lit (rw e at r.4);
      }

  pub parts_budgeted : BudgetParts s b ps → is_budgeted s b ps ≡ true
  parts_budgeted B =
      and_both _ _
      (and_both _ _
      (and_both _ _ (and_both _ _ B.pairing (eq-eqb _ _ B.count))
      (each_all keeps (below s.cameras) (λ u m. by_test (is_included s.lit u) (λ t. or_right (not (is_included s.lit u)) _ (B.keeps u m t)) (λ t. rw t))))
      B.rises)
      (by_test (eqb (gained s b) 0)
      (λ t.
      let same = subst (λ (xs : List Pair). same_pairs xs s.lit ≡ true) (sym (B.stays (eqb-true _ _ t))) (same_self s.lit) in
      or_right (not (eqb (gained s b) 0)) _ same)
      (λ t. rw t))

-- AUGMENTING PATHS
module _ (n : ℕ) (fs : List Pair) (F : FitsBelow n fs) where
  -- a matching with m pairs more than p that keeps lit what p lights; p itself where m is 0
  pub record Gained (p : ℕ → ℕ) (m : ℕ) : Type 0 where
    pub partners : ℕ → ℕ
    pub matching : Matching fs partners
    pub keeps : (k : ℕ) → p k ≢ k → partners k ≢ k
    pub count : length (lit_fits partners fs) ≡ length (lit_fits p fs) + m
    pub same : m ≡ 0 → partners ≡ p

  pub more_pairs : (m : ℕ) (p : ℕ → ℕ) → Matching fs p → length (lit_fits p fs) + m ≤ greatest fs → Gained p m
  more_pairs zero p M h = record { partners = p; matching = M; keeps = λ k ne. ne; count = omega arith; same = λ _. refl }
  more_pairs (suc m) p M h =
      by_test (has_path (doubled_table n fs p))
      (λ t.
      let G = path_more n fs F p M t in
      let one : length (lit_fits G.0 fs) ≡ suc (length (lit_fits p fs)) =
      omega (arith, lit_count n fs F p M, lit_count n fs F G.0 G.1.matching, G.1.count) in
      let I = more_pairs m G.0 G.1.matching (omega arith) in
      record {
        partners = I.partners;
        matching = I.matching;
        keeps = λ k ne. I.keeps k (G.1.keeps k ne);
        count = omega (arith, I.count);
        same = λ z. absurd (omega arith);
      })
      (λ t. absurd (omega (arith, no_path_pairs n fs F p M t)))

module _ (s : Stock) (F : FitsBelow s.cameras s.fits) (L : is_pairing s.fits s.lit ≡ true) where
  abbrev n : ℕ
  n = s.cameras

  abbrev fs : List Pair
  fs = s.fits

  pub lit_few : length s.lit ≤ greatest fs
  lit_few = greatest_bound n fs F s.lit L

  module _ (rises : pairs_rise s.lit ≡ true) where
    -- the matching of the lit pairs gives them back
    lit_again : pairs_in_order (partner s.lit) (below n) ≡ s.lit
    lit_again = pairs_lit n fs F (partner s.lit) (list_matching n fs F s.lit L) ∙ list_lit n fs F s.lit L rises

    pub augmented_budgeted : (b : ℕ) (p : ℕ → ℕ) → Matching fs p → ((k : ℕ) → partner s.lit k ≢ k → p k ≢ k) →
        length (pairs_in_order p (below n)) ≡ length s.lit + gained s b → (gained s b ≡ 0 → p ≡ partner s.lit) →
        is_budgeted s b (pairs_in_order p (below n)) ≡ true
    augmented_budgeted b p M kept count stays =
        let same = pairs_lit n fs F p M in
        parts_budgeted s b (pairs_in_order p (below n))
        (record {
          pairing = subst (λ (ps : List Pair). is_pairing fs ps ≡ true) (sym same) (lit_pairing n fs F p M);
          count = count;
          keeps =
              λ k m t.
              let ne = ((list_lights n fs F s.lit L).lit k (included_end s.lit k t)).1 in
              subst (λ (ps : List Pair). is_included ps k ≡ true) (sym same) (end_included (lit_fits p fs) k ((lit_lights n fs F p M).all k (kept k ne)));
          rises = subst (λ (ps : List Pair). pairs_rise ps ≡ true) (sym same) (rising_rise (lit_fits p fs) (lit_rising n fs F p M));
          stays = λ z. ap (λ (q : ℕ → ℕ). pairs_in_order q (below n)) (stays z) ∙ lit_again;
        })

    pub budgeted_some : (b : ℕ) → (qs : List Pair) × (is_budgeted s b qs ≡ true)
    budgeted_some b =
        let M = list_matching n fs F s.lit L in
        let again = ap (λ (ps : List Pair). length ps) (list_lit n fs F s.lit L rises) in
        let I = more_pairs n fs F (gained s b) (partner s.lit) M (omega (arith, lit_few)) in
        let size = ap (λ (ps : List Pair). length ps) (pairs_lit n fs F I.partners I.matching) in (
          pairs_in_order I.partners (below n),
          augmented_budgeted b I.partners I.matching I.keeps (omega (arith, I.count)) I.same,
        )

  module _ (b : ℕ) (more : gain s < b) where
    pub budgeted_plan : (ps : List Pair) → is_budgeted s b ps ≡ is_plan s ps
    budgeted_plan ps =
        let count : length s.lit + gained s b ≡ greatest fs = omega (arith, lit_few) in
        let none : eqb (gained s b) 0 ≡ eqb (length s.lit) (greatest fs) =
        test_same _ _ (λ t. eq-eqb (length s.lit) (greatest fs) (omega (arith, lit_few, eqb-true (gained s b) 0 t)))
        (λ t. eq-eqb (gained s b) 0 (omega (arith, eqb-true (length s.lit) (greatest fs) t))) in
        rw (count, none)

    pub none_missing : (k : ℕ) → missing s b k ≡ 0
    none_missing k = rw (lt-ltb (gain s) b more)

  pub some_plan : pairs_rise s.lit ≡ true → (qs : List Pair) × (is_plan s qs ≡ true)
  some_plan rises =
      let r = budgeted_some rises (suc (gain s)) in (r.0, sym (budgeted_plan (suc (gain s)) (omega arith) r.0) ∙ r.1)

  -- twice the greatest number are cameras
  greatest_few : 2 * greatest fs ≤ n
  greatest_few = let r = greatest_pairing fs in omega (arith, list_count n fs F r.0 r.1.0, r.1.1)

  pub gain_half : 2 * gain s ≤ n
  gain_half = omega (arith, greatest_few)

  pub budgeted_bound : (b : ℕ) (ps : List Pair) → is_budgeted s b ps ≡ true → greatest fs ≤ length ps + missing s b (length ps)
  budgeted_bound b ps h =
      let count = (budgeted_parts s b ps h).count in
      by_test (ltb (gain s) b) (λ t. rw t (omega (arith, ltb-true (gain s) b t, lit_few))) (λ t. rw t (omega (arith, greatest_few)))

  -- one budget after another
  pub budgets_add : (b c : ℕ) (ps qs : List Pair) → is_budgeted s b ps ≡ true → is_budgeted (record { cameras = n; fits = fs; lit = ps }) c qs ≡ true →
      is_budgeted s (b + c) qs ≡ true
  budgets_add b c ps qs h k =
      let P = budgeted_parts s b ps h in
      let Q = budgeted_parts (record { cameras = n; fits = fs; lit = ps }) c qs k in
      parts_budgeted s (b + c) qs
      (record {
        pairing = Q.pairing;
        count = omega (arith, lit_few, P.count, Q.count);
        keeps = λ u m t. Q.keeps u m (P.keeps u m t);
        rises = Q.rises;
        stays = λ z. Q.stays (omega (arith, P.count)) ∙ P.stays (omega arith);
      })

-- ONE BY ONE
one_by_one : (b g : ℕ) → ((search_one_by_one b g).searches ≡ min (suc g) b) × ((search_one_by_one b g).found ≡ min g b) × ((search_one_by_one b g).none ≡ ltb g b)
unfolding search_one_by_one
one_by_one zero g = (omega arith, omega arith, sym (le-ltb g 0 (omega arith)))
one_by_one (suc b) zero = (omega arith, omega arith, sym (lt-ltb 0 (suc b) (omega arith)))
one_by_one (suc b) (suc g) =
    let I = one_by_one b g in (
      omega (arith, I.0),
      omega (arith, I.1),
      I.2 ∙
          test_same _ _ (λ t. lt-ltb (suc g) (suc b) (omega (arith, ltb-true g b t))) (λ t. lt-ltb g b (omega (arith, ltb-true (suc g) (suc b) t))),
    )

numbers_one_by_one : (b g : ℕ) → search_one_by_one b g ≡ record { searches = min (suc g) b; found = min g b; none = ltb g b }
numbers_one_by_one b g = let I = one_by_one b g in rw (← I.0, ← I.1, ← I.2)

pub one_by_one_is : OneByOneIs
one_by_one_is = (numbers_one_by_one, λ s b. numbers_one_by_one b (gain s))
