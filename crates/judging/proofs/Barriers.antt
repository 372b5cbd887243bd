-- Tables of classes judged class by class, and the arcs that enter a class counted.
--   arc_low                                    the ends of the arc at a place
--   each_below, each_of                        a test of each number below a bound, of each element of a list
--   all_allowed                                arc_allowed is arc_fits
--   largest_found, largest_or                  the largest class
--   counting_start, _enters, _passes, _end     the counters, one arc more
--   counting_small                             no counter is larger than the number of arcs
--   entered_from, entered_counted              the classes from 3 on; judged by counters
use Rattle.std.proofs.Common.{◌≡◌, ◌≢◌, ◌↔◌, IsTrue, EachIndex, SomeIndex, MatchOption, Option, None, Some, refl, sym, ap, ◌∙◌, Bool, ◌&&◌, ◌||◌, List, [], ◌∷◌, ℕ, suc, ◌+◌, ◌≤◌, ◌<◌, arith, length, get_or, drop, set, replicate, add-one, length-set, get_or-set_same, get_or-set_other, drop-cons, eqb, ltb}
use Rattle.std.proofs.lemmas.List.{get_or_default, length-replicate, get_or-replicate}
use Rattle.std.specs.Option.{unwrap_or}
use mathlib.Core.Logic.{⊎_elim}
use borrow.Author.Tests.{eqb-true, eq-eqb, ne_eqb, ltb-false, le-ltb}
use lib.ListN.{drop_of_length-le}
use Rattle.counting.specs.Tests.{pick, all, below}
use Rattle.counting.proofs.Booleans.{by_test, same_or, test_same}
use Rattle.counting.proofs.Membership.{all_same, all_each, each_all, all_get_d, get_d_all}
use Rattle.counting.proofs.Range.{in_up, up_in}
use Rattle.skew.specs.Graph.{no_arc, class_at, largest_of, arc_fits, entries_into}
use Rattle.skew.proofs.Classes.{class_largest, largest_is}
use Rattle.skew.specs.declared.Arc.{Arc}
use Rattle.arcs.specs.Table.{Covers}
use Rattle.judging.specs.Barriers.{arc_allowed, entered_once, all_entered, Counting}

-- ARCS AT THEIR PLACES
module _ {xs : List Arc} {n : ℕ} (T : Covers xs n) where
  pub arc_low : (x : Arc) (i : ℕ) → i < length xs → x ≡ get_or xs i x → (x.tail < n) × (x.head < n)
  arc_low x i l e = let q : x ≡ get_or xs i no_arc = e ∙ get_or_default xs i x no_arc l in rw q (T.tails i l, T.heads i l)

-- A TEST OF EACH
pub each_below : (f : ℕ → Bool) (n : ℕ) (r : Bool) → (IsTrue r ↔ ((v : ℕ) → v < n → IsTrue (f v))) → r ≡ all f (below n)
each_below f n r e =
    test_same r (all f (below n)) (λ t. each_all f (below n) (λ v m. e.0 t v (omega (arith, in_up 0 n v m))))
    (λ t. e.1 (λ v l. all_each f (below n) t v (up_in 0 n v (omega arith) (omega arith))))

pub each_of : {A : Type 0} (f : A → Bool) (xs : List A) (d : A) (r : Bool) → (IsTrue r ↔ EachIndex xs (λ k. IsTrue (f (get_or xs k d)))) → r ≡ all f xs
each_of f xs d r e = test_same r (all f xs) (λ t. get_d_all f xs d (e.0 t)) (λ t. e.1 (λ k l. all_get_d f xs d k t l))

pub all_allowed : (cs : List ℕ) (xs : List Arc) → all (arc_allowed cs) xs ≡ all (arc_fits cs) xs
unfolding arc_allowed
all_allowed cs xs = refl

-- THE LARGEST CLASS
-- m is as large as each class, and is one of them
pub largest_found : (cs : List ℕ) (m : ℕ) → EachIndex cs (λ k. get_or cs k 0 ≤ m) → SomeIndex cs (λ k. get_or cs k 0 ≡ m) → m ≡ largest_of cs
largest_found cs m most some =
    ⊎_elim (λ (z : largest_of cs ≡ 0). omega (arith, some.2, class_largest cs some.0))
    (λ n. let i = largest_is cs (omega arith) in omega (arith, some.2, class_largest cs some.0, most i.0 i.1, i.2)) (same_or (largest_of cs) 0)

pub largest_or : (cs : List ℕ) (o : Option ℕ) → MatchOption o (length cs ≡ 0) (λ m. EachIndex cs (λ k. get_or cs k 0 ≤ m)) →
    MatchOption o (length cs ≡ 0) (λ m. SomeIndex cs (λ k. get_or cs k 0 ≡ m)) → unwrap_or o 0 ≡ largest_of cs
unfolding largest_of
largest_or [] None e d = refl
largest_or (c ∷ cs) None e d = absurd (omega arith)
largest_or cs (Some m) e d = largest_found cs m e d

-- ENTRIES COUNTED
entries_le : (cs : List ℕ) (c : ℕ) (xs : List Arc) → entries_into cs c xs ≤ length xs
unfolding entries_into
entries_le cs c [] = omega arith
entries_le cs c (x ∷ xs) =
    let ih = entries_le cs c xs in
    by_test (eqb (class_at cs x.tail) 1 && eqb (class_at cs x.head) c) (λ t. rw t (omega arith)) (λ t. rw t (omega arith))

pub counting_start : (cs : List ℕ) (xs : List Arc) → Counting cs xs (replicate 256 0) 0
counting_start cs xs = record { long = length-replicate {A = ℕ} 256 0; counts = λ c h. omega (arith, get_or-replicate {A = ℕ} 256 c 0 0 h) }

module _ {cs es : List ℕ} {xs : List Arc} {i : ℕ} (C : Counting cs xs es i) where
  pub counting_end : length xs ≤ i → (c : ℕ) → c < 256 → get_or es c 0 ≡ entries_into cs c xs
  unfolding entries_into
  counting_end l c h = let q : entries_into cs c (drop i xs) ≡ 0 = rw (drop_of_length-le xs {i = i} l) in omega (arith, C.counts c h)

  pub counting_small : (c : ℕ) → c < 256 → get_or es c 0 ≤ length xs
  counting_small c h = omega (arith, C.counts c h, entries_le cs c xs)

  -- the arc at hand leads from t to h
  module _ (l : i < length xs) {t h : ℕ} (et : t ≡ (get_or xs i no_arc).tail) (eh : h ≡ (get_or xs i no_arc).head) where
    entries_step : (c : ℕ) → entries_into cs c (drop i xs) ≡ pick (eqb (class_at cs t) 1 && eqb (class_at cs h) c) 1 0 + entries_into cs c (drop (i + 1) xs)
    unfolding entries_into
    entries_step c = rw (add-one, drop-cons xs i no_arc l, et, eh)

    pub counting_enters : {b : ℕ} → b < 256 → class_at cs t ≡ 1 → b ≡ class_at cs h → Counting cs xs (set es b (get_or es b 0 + 1)) (i + 1)
    counting_enters {b} m from into =
        record {
          long = length-set es b (get_or es b 0 + 1) ∙ C.long;
          counts = λ c k.
              ⊎_elim
              (λ (q : c ≡ b).
              omega (
                arith,
                C.counts c k,
                rw (from, ← into, eq-eqb b c (sym q)) at (entries_step c),
                ap (λ (z : ℕ). get_or (set es b (get_or es b 0 + 1)) z 0) q,
                ap (λ (z : ℕ). get_or es z 0) q,
                get_or-set_same es b (get_or es b 0 + 1) 0 (omega (arith, C.long)),
              ))
              (λ n.
              omega (
                arith,
                C.counts c k,
                rw (from, ← into, ne_eqb b c (λ q. n (sym q))) at (entries_step c),
                get_or-set_other es b c (get_or es b 0 + 1) 0 n,
              ))
              (same_or c b);
        }

  pub counting_passes : i < length xs → class_at cs (get_or xs i no_arc).tail ≢ 1 → Counting cs xs es (i + 1)
  counting_passes l n =
      record {
        long = C.long;
        counts = λ c k. omega (arith, C.counts c k, rw (ne_eqb (class_at cs (get_or xs i no_arc).tail) 1 n) at (entries_step l refl refl c));
      }

-- EACH CLASS ENTERED ONCE
-- classes below 3 have no entries to count
pub entered_from : (es : List ℕ) (top : ℕ) (r : Bool) → (IsTrue r ↔ ((c : ℕ) → 3 ≤ c → c ≤ top → get_or es c 0 ≡ 1)) → r ≡ all_entered es top
entered_from es top r e =
    each_below (entered_once es) (suc top) r (
      (λ t c l. by_test (ltb c 3) (λ q. rw q) (λ q. rw (q, eq-eqb (get_or es c 0) 1 (e.0 t c (ltb-false c 3 q) (omega arith))))),
      (λ h. e.1 (λ c low l. eqb-true (get_or es c 0) 1 (rw (le-ltb c 3 low) at (h c (omega arith))))),
    )

-- counters that hold the entries of each class judge as the entries do
pub entered_counted : (es cs : List ℕ) (xs : List Arc) (top : ℕ) → top < 256 → ((c : ℕ) → c < 256 → get_or es c 0 ≡ entries_into cs c xs) →
    all_entered es top ≡ all (λ (c : ℕ). ltb c 3 || eqb (entries_into cs c xs) 1) (below (suc top))
entered_counted es cs xs top l h =
    all_same (entered_once es) (λ (c : ℕ). ltb c 3 || eqb (entries_into cs c xs) 1) (below (suc top))
    (λ c m. rw (h c (omega (arith, in_up 0 (suc top) c m))))
