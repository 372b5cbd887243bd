-- No camera in two pairs, asked with a table that has a flag for each camera passed.
--   shares_none flags pairs          the pairs share no camera, and have none that is flagged
--   shared_start                     a table without flags leaves every pair free
--   shared_next                      a free pair: its cameras are flagged, and what is asked goes on behind it
--   shared_fails_first, _second      a camera that is flagged: it is in two pairs
--   shared_end                       there is no pair left
use Rattle.std.proofs.Common.{◌≡◌, refl, sym, Bool, true, false, ◌&&◌, ◌||◌, not, List, [], ◌∷◌, ℕ, ◌+◌, ◌≤◌, ◌<◌, length, get_or, drop, replicate}
use mathlib.Core.Bool.{and-false, and_assoc}
use lib.ListN.{drop_of_length-le}
use Rattle.counting.specs.Tests.{all, any}
use Rattle.counting.specs.Pairs.{no_pair}
use Rattle.counting.specs.declared.Pair.{Pair}
use Rattle.counting.specs.Lists.{In}
use Rattle.counting.proofs.Loops.{next_in}
use Rattle.counting.proofs.Membership.{each_all}
use Rattle.matching.specs.Stock.{touches, meets, none_shared}
use Rattle.matching.specs.Flags.{is_flagged, flag_pair}
use Rattle.matching.proofs.Flags.{no_flag_new, flag_pair_lem}
use Rattle.files.specs.Tables.{is_free}

-- A PAIR FLAGGED
free_by : (a b c d : Bool) → (not (a || c) && not (b || d)) ≡ ((not a && not b) && not (c || d))
free_by true b c d = refl
free_by false true c d = and-false (not c)
free_by false false true d = refl
free_by false false false d = refl

and_free : (a b c d : Bool) → ((a && b) && not (c || d)) ≡ ((a && not c) && (b && not d))
and_free false b c d = refl
and_free true b true d = and-false b
and_free true b false d = refl

module _ (ts : List Bool) (x : Pair) (p : x.first < length ts) (q : x.second < length ts) where
  free_set : (y : Pair) → is_free (flag_pair ts x) y ≡ (is_free ts y && not (meets x y))
  free_set y =
      rw (flag_pair_lem ts x y.first p q, flag_pair_lem ts x y.second p q)
      (free_by (is_flagged ts y.first) (is_flagged ts y.second) (touches x y.first) (touches x y.second))

  all_free : (ys : List Pair) → all (is_free (flag_pair ts x)) ys ≡ (all (is_free ts) ys && not (any (meets x) ys))
  unfolding all any
  all_free [] = refl
  all_free (y ∷ ys) = rw (free_set y, all_free ys) (sym (and_free (is_free ts y) (all (is_free ts) ys) (meets x y) (any (meets x) ys)))

  step : (ys : List Pair) → is_free ts x ≡ true →
      (all (is_free ts) (x ∷ ys) && none_shared (x ∷ ys)) ≡ (all (is_free (flag_pair ts x)) ys && none_shared ys)
  unfolding all none_shared
  step ys e = rw (e, all_free ys) (sym (and_assoc (all (is_free ts) ys) (not (any (meets x) ys)) (none_shared ys)))

-- PAIRS from the front
-- what is left to ask of some pairs, past those whose cameras are flagged
unfoldable pub shares_none : (flags : List Bool) → List Pair → Bool
shares_none ts ps = all (is_free ts) ps && none_shared ps

pub shared_start : (n : ℕ) (ps : List Pair) → none_shared ps ≡ shares_none (replicate n false) ps
unfolding shares_none
shared_start n ps =
    let free : (x : Pair) → In x ps → is_free (replicate n false) x ≡ true = λ x m. rw (no_flag_new n x.first, no_flag_new n x.second) in
    rw (each_all (is_free (replicate n false)) ps free)

module _ (ps : List Pair) (ts : List Bool) (i : ℕ) where
  pub shared_end : length ps ≤ i → shares_none ts (drop i ps) ≡ true
  unfolding shares_none all none_shared
  shared_end h = rw (drop_of_length-le ps h)

  module _ (h : i < length ps) where
    abbrev here : Pair
    here = get_or ps i no_pair

    pub shared_fails_first : is_flagged ts here.first ≡ true → shares_none ts (drop i ps) ≡ false
    unfolding shares_none all
    shared_fails_first e = rw ((next_in ps no_pair i h).is, e)

    pub shared_fails_second : is_flagged ts here.second ≡ true → shares_none ts (drop i ps) ≡ false
    unfolding shares_none all
    shared_fails_second e = rw ((next_in ps no_pair i h).is, e, and-false (not (is_flagged ts here.first)))

    pub shared_next : here.first < length ts → here.second < length ts → is_flagged ts here.first ≡ false → is_flagged ts here.second ≡ false →
        shares_none ts (drop i ps) ≡ shares_none (flag_pair ts here) (drop (i + 1) ps)
    unfolding shares_none
    shared_next a b p q = rw (next_in ps no_pair i h).is (step ts here a b (drop (i + 1) ps) (rw (p, q)))
