-- Questions put to pairs and arcs, as the library's chains put them.
--   all_of                      what a chain's `all` answers
--   yields_twos, yields_neighbours      the chunks of two elements of a slice; each two that stand side by side
--   both d f w                  what f says of two elements
--   mates_twos                  question 10, put to chunks of two
--   rise_neighbours             questions 11 and 12, put to each pair, and to each two side by side
--   order_places                question 9 of a barrier, put to each line with its place
--   AllPassed fs x n            the first n fits are smaller than a pair that is looked up
--   passed_next, end_by         one more of them; a fit at which the look-up ends, by its cameras
--   ended_at, all_passed        what the look-up answers, at the first fit that is not smaller or where there is none
--   look_found, look_none       the same, of the library's position
use Rattle.std.proofs.Common.{◌≡◌, inl, inr, ⊎_elim, refl, sym, ap, subst, ◌∙◌, Bool, true, false, not, Option, Some, None, List, [], ◌∷◌, ◌++◌, ℕ, suc, ◌+◌, ◌≤◌, ◌<◌, arith, length, get_or, ltb, leb, eqb, position, ◌&&◌, add-one, length-append, Bor}
use Rattle.std.specs.List.{position_or_len, enumerate_from}
use Rattle.std.specs.Iterator.{AlwaysYields}
use Rattle.std.specs.Slice.Iter.{chunks_exact_rest, chunks_exact_size, chunks_exact_steps, windows_rest, windows_size, windows_steps}
use Rattle.std.specs.declared.slice.ChunksExact.{ChunksExact}
use Rattle.std.specs.declared.slice.Windows.{Windows}
use Rattle.std.specs.Fn.{Called}
use Rattle.std.specs.Iterator.{YieldsThen}
use Rattle.std.specs.List.{FoldsTo}
use Rattle.std.specs.Option.{MatchOption}
use denote.Param.Members.{Mut}
use Rattle.std.proofs.lemmas.Iterator.{YieldsList}
use Rattle.std.proofs.lemmas.Iterator.Search.{all_from_yields_List}
use Rattle.counting.specs.Tests.{all}
use Rattle.counting.proofs.Booleans.{list_all_is}
use Rattle.std.proofs.lemmas.List.Sums.{fails_before_first}
use Rattle.std.proofs.lemmas.List.Quantifiers.{position-Some}
use mathlib.Core.Bool.{and-false, and-true}
use borrow.Author.Tests.{not-true, ltb-true, ltb-false}
use Rattle.formats.specs.Limits.{class_most}
use Rattle.counting.specs.Pairs.{no_pair}
use Rattle.counting.specs.declared.Pair.{Pair}
use Rattle.counting.proofs.Booleans.{by_test, test_same}
use Rattle.counting.proofs.Membership.{in_get_d}
use Rattle.skew.specs.Graph.{no_arc, are_mates, mates_fit}
use Rattle.skew.specs.declared.Arc.{Arc}
use Rattle.matching.specs.Stock.{same_pair, pair_before, pairs_rise}
use Rattle.files.specs.CertificateFile.{names_in_order}
use Rattle.matching.specs.Pairs.{Before}
use Rattle.matching.specs.LookUp.{is_found, looked, LookedUp, EqualOrLarger}
use Rattle.matching.proofs.Pairs.{same_is, is_same}
use Rattle.matching.proofs.Rising.{before_is, not_before, before_not}
use Rattle.matching.proofs.LookUp.{look_counts, found_last}

-- A CHAIN that asks each of its items, where the items are those of ys
pub all_of : {S A B F : Type 0} {steps : S → Option A → S → Type 0} {v : A → B} {g : Mut F (A × Unit {0}) Bool} {s u : S} {f : F} {r : Bool} {ys : List B} (test : B → Bool) →
    YieldsList steps v s ys →
    (xs : List A) × (o : Option A) × (j : F) × YieldsThen steps s xs o u × FoldsTo (λ p x q. Called g p (x, tt) true q) f xs j ×
    MatchOption o (r ≡ true) (λ x. (r ≡ false) × ((h : F) × Called g j (x, tt) false h)) →
    ((x : A) (b : Bool) (q : F) → Called g f (x, tt) b q → (q ≡ f) × (b ≡ test (v x))) → r ≡ all test ys
all_of {ys = ys} test y ran each = all_from_yields_List test _ _ _ ran y each ∙ list_all_is test ys

-- CHUNKS OF TWO, and neighbours
abbrev twos : {A : Type 0} → List A → List (List A)
twos [] = []
twos (x ∷ []) = []
twos (x ∷ y ∷ rest) = (x ∷ y ∷ []) ∷ twos rest

abbrev neighbours : {A : Type 0} → List A → List (List A)
neighbours [] = []
neighbours (x ∷ []) = []
neighbours (x ∷ y ∷ rest) = (x ∷ y ∷ []) ∷ neighbours (y ∷ rest)

module _ {A : Type 0} where
  two_first : (x y : A) (rest ws zs : List A) → x ∷ y ∷ rest ≡ ws ++ zs → length ws ≡ 2 → (ws ≡ x ∷ y ∷ []) × (zs ≡ rest)
  two_first x y rest [] zs e n = absurd (omega arith)
  two_first x y rest (a ∷ []) zs e n = absurd (omega arith)
  two_first x y rest (a ∷ b ∷ []) zs e n = (cc, cc)
  two_first x y rest (a ∷ b ∷ c ∷ ws) zs e n = absurd (omega arith)

  twos_given : (s : ChunksExact A) (xs : List A) → chunks_exact_rest s ≡ xs → chunks_exact_size s ≡ 2 →
      AlwaysYields chunks_exact_steps (λ (w : Bor (List A)). w.now) s (twos xs)
  twos_given s [] e n = λ w j p. omega (arith, ap length e, ap length p.1.0, length-append w.now (chunks_exact_rest j), p.1.1)
  twos_given s (x ∷ []) e n = λ w j p. omega (arith, ap length e, ap length p.1.0, length-append w.now (chunks_exact_rest j), p.1.1)
  twos_given s (x ∷ y ∷ rest) e n = (
    λ j p. omega (arith, ap length e, p.1.0),
    λ w j p.
        let r = two_first x y rest w.now (chunks_exact_rest j) (sym e ∙ p.1.0) (p.1.1 ∙ n) in
        (r.0, twos_given j rest r.1 (p.0 ∙ n)),
  )

  neighbours_given : (s : Windows A) (xs : List A) → windows_rest s ≡ xs → windows_size s ≡ 2 →
      AlwaysYields windows_steps (λ (w : Bor (List A)). w.now) s (neighbours xs)
  neighbours_given s [] e n = λ w j p. omega (arith, ap length e, p.1.0)
  neighbours_given s (x ∷ []) e n = λ w j p. omega (arith, ap length e, p.1.0)
  neighbours_given s (x ∷ y ∷ rest) e n = (
    λ j p. omega (arith, ap length e, p.1.0),
    λ w j p. (rw (n, e) at p.1.1, neighbours_given j (y ∷ rest) (rw e at p.1.2) (p.0 ∙ n)),
  )

  pub yields_twos : {s : ChunksExact A} (xs : List A) → chunks_exact_rest s ≡ xs → chunks_exact_size s ≡ 2 →
      YieldsList chunks_exact_steps (λ (w : Bor (List A)). w.now) s (twos xs)
  yields_twos {s} xs e n = record { runs = twos_given s xs e n }

  pub yields_neighbours : {s : Windows A} (xs : List A) → windows_rest s ≡ xs → windows_size s ≡ 2 →
      YieldsList windows_steps (λ (w : Bor (List A)). w.now) s (neighbours xs)
  yields_neighbours {s} xs e n = record { runs = neighbours_given s xs e n }

-- what is asked of two, one beside the other
abbrev pub both : {A : Type 0} (d : A) → (A → A → Bool) → List A → Bool
both d f w = f (get_or w 0 d) (get_or w 1 d)

pub mates_twos : (xs : List Arc) → all (both no_arc are_mates) (twos xs) ≡ mates_fit xs
unfolding mates_fit all
mates_twos [] = refl
mates_twos (x ∷ []) = refl
mates_twos (x ∷ y ∷ rest) = ap (λ (b : Bool). are_mates x y && b) (mates_twos rest)

and_across : (a b c d : Bool) → ((a && b) && (c && d)) ≡ (a && c && (b && d))
and_across false b c d = refl
and_across true b true d = refl
and_across true b false d = and-false b

pub rise_neighbours : (xs : List Pair) →
    (all (λ (x : Pair). ltb x.first x.second) xs && all (both no_pair pair_before) (neighbours xs)) ≡ pairs_rise xs
unfolding pairs_rise all
rise_neighbours [] = refl
rise_neighbours (x ∷ []) = simp and-true
rise_neighbours (x ∷ y ∷ rest) =
    and_across (ltb x.first x.second) (all (λ (z : Pair). ltb z.first z.second) (y ∷ rest)) (pair_before x y)
    (all (both no_pair pair_before) (neighbours (y ∷ rest))) ∙
    ap (λ (b : Bool). ltb x.first x.second && pair_before x y && b) (rise_neighbours (y ∷ rest))

pub order_places : (i : ℕ) (xs : List Pair) → all (λ (p : ℕ × Pair). eqb p.1.first p.0 && leb p.1.second class_most) (enumerate_from i xs) ≡ names_in_order i xs
unfolding names_in_order all
order_places i [] = refl
order_places i (x ∷ xs) = rw add-one (ap (λ (b : Bool). eqb x.first i && leb x.second class_most && b) (order_places (suc i) xs))

-- A PAIR LOOKED UP
module _ (fs : List Pair) (x : Pair) where
  abbrev pub AllPassed : (count : ℕ) → Type 0
  AllPassed n = (k : ℕ) → k < n → Before (get_or fs k no_pair) x

  pub passed_next : (i : ℕ) → AllPassed i → Before (get_or fs i no_pair) x → AllPassed (i + 1)
  passed_next i a b k h =
      by_test (ltb k i) (λ t. a k (ltb-true k i t))
      (λ t. let l = ltb-false k i t in let e : i ≡ k = omega arith in subst (λ (j : ℕ). Before (get_or fs j no_pair) x) e b)

  pub end_by : (y : Pair) → x.first ≤ y.first → (x.first ≡ y.first → x.second ≤ y.second) → EqualOrLarger y x
  end_by y l s =
      not_before y x
      (by_test (pair_before y x) (λ t. absurd (⊎_elim (λ b. omega arith) (λ b. let e = s (sym b.0) in omega (arith, b.1)) (before_is y x t))) (λ t. t))

  pub ended_at : (i : ℕ) {found : Bool} → i < length fs → AllPassed i → EqualOrLarger (get_or fs i no_pair) x → found ≡ same_pair (get_or fs i no_pair) x →
      LookedUp fs x found (i + 1)
  ended_at i h a e q =
      let y = get_or fs i no_pair in
      let n : looked fs x ≡ suc i = (look_counts fs x (suc i)).1 (inl (i, refl, record { below = h; here = e; passed = a })) in
      record {
        answer =
            q ∙
            test_same (same_pair y x) (is_found fs x) (λ t. (found_last fs x).1 (i, n, same_is y x t))
            (λ t.
            let l = (found_last fs x).0 t in
            let k : l.0 ≡ i = omega (arith, l.1, n) in
            is_same y x (subst (λ (j : ℕ). get_or fs j no_pair ≡ x) k l.2));
        number = omega (arith, n);
      }

  pub all_passed : AllPassed (length fs) → LookedUp fs x false (length fs)
  all_passed a =
      let n : looked fs x ≡ length fs =
      (look_counts fs x (length fs)).1 (inr (refl, λ y m. let g = in_get_d y fs no_pair m in subst (λ (z : Pair). Before z x) g.2 (a g.0 g.1))) in
      record {
        answer =
            by_test (is_found fs x)
            (λ t.
            let l = (found_last fs x).0 t in
            let b : Before x x = subst (λ (z : Pair). Before z x) l.2 (a l.0 (omega (arith, l.1, n))) in
            absurd (before_not x x b b))
            (λ t. sym t);
        number = sym n;
      }

  abbrev ends : Pair → Bool
  ends y = not (pair_before y x)

  passed : (y : Pair) → ends y ≡ false → Before y x
  passed y e = by_test (pair_before y x) (λ t. before_is y x t) (λ t. let z : true ≡ false = rw t at e in absurd (cc))

  pub look_found : (i : ℕ) {found : Bool} → position ends fs ≡ Some i → found ≡ same_pair (get_or fs i no_pair) x → LookedUp fs x found (i + 1)
  look_found i e =
      let r = position-Some ends fs i no_pair e in
      let y = get_or fs i no_pair in
      ended_at i r.0 (λ k h. passed (get_or fs k no_pair) (r.2 k h)) (not_before y x (not-true (pair_before y x) r.1))

  none_ends : position ends fs ≡ None → (k : ℕ) → k < length fs → ends (get_or fs k no_pair) ≡ false
  none_ends e k h =
      by_test (ltb (position_or_len ends fs) (length fs))
      (λ t. let z : Some (position_or_len ends fs) ≡ None = rw t at e in absurd (cc))
      (λ t. let l = ltb-false _ _ t in fails_before_first ends fs k no_pair (omega arith))

  pub look_none : position ends fs ≡ None → LookedUp fs x false (length fs)
  look_none e = all_passed (λ k h. passed (get_or fs k no_pair) (none_ends e k h))
