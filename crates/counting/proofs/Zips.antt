-- Two lists, pair by pair; and the first and second numbers of pairs.
--   zip_first, zip_second, zip_length    how many pairs: as many as the first list has numbers, as the second, as both
--   zip_whole       all pairs are the pairs of both as far as they go
--   zip_low         never more pairs than either list has numbers
--   zip_within, zip_at    the pair at a place: what both lists have there
--   zip_seconds     the second numbers of what was zipped
--   firsts_length, seconds_length    as many numbers as pairs
--   firsts_append, seconds_append    of pairs behind others
--   zip_ends        pairs are their first and second numbers, zipped
--   pairs_stored    pairs stored at the front of two lists, read back
use mathlib.Core.Path.{◌≡◌, refl, ap}
use mathlib.Core.List.{List, [], ◌∷◌, ◌++◌}
use Prim.Native.Nat.{ℕ, zero, suc, ◌≤◌, ◌<◌}
use native.Mathlib.Omega.{arith}
use lib.ListN.{length, get_or, take}
use lib.Seq.{sets}
use Rattle.counting.specs.Pairs.{pair, no_pair, firsts_of, seconds_of, zip_pairs, pairs_of}
use Rattle.counting.specs.declared.Pair.{Pair}
use Rattle.counting.proofs.Stores.{take_sets}

pub zip_first : (xs ys : List ℕ) → length xs ≤ length ys → length (zip_pairs xs ys) ≡ length xs
unfolding zip_pairs
zip_first [] ys h = refl
zip_first (x ∷ xs) [] h = absurd (omega arith)
zip_first (x ∷ xs) (y ∷ ys) h = ap suc (zip_first xs ys (omega arith))

pub zip_second : (xs ys : List ℕ) → length ys ≤ length xs → length (zip_pairs xs ys) ≡ length ys
unfolding zip_pairs
zip_second [] [] h = refl
zip_second [] (y ∷ ys) h = absurd (omega arith)
zip_second (x ∷ xs) [] h = refl
zip_second (x ∷ xs) (y ∷ ys) h = ap suc (zip_second xs ys (omega arith))

pub zip_length : (xs ys : List ℕ) → length ys ≡ length xs → length (zip_pairs xs ys) ≡ length xs
zip_length xs ys e = zip_first xs ys (omega arith)

pub zip_low : (xs ys : List ℕ) → (length (zip_pairs xs ys) ≤ length xs) × (length (zip_pairs xs ys) ≤ length ys)
unfolding zip_pairs
zip_low [] ys = (omega arith, omega arith)
zip_low (x ∷ xs) [] = (omega arith, omega arith)
zip_low (x ∷ xs) (y ∷ ys) = let r = zip_low xs ys in (omega arith, omega arith)

pub zip_whole : (xs ys : List ℕ) → pairs_of (length (zip_pairs xs ys)) xs ys ≡ zip_pairs xs ys
unfolding zip_pairs
zip_whole [] ys = refl
zip_whole (x ∷ xs) [] = refl
zip_whole (x ∷ xs) (y ∷ ys) = ap (λ (l : List Pair). pair x y ∷ l) (zip_whole xs ys)

pub zip_within : (xs ys : List ℕ) (i : ℕ) → i < length (zip_pairs xs ys) → get_or (zip_pairs xs ys) i no_pair ≡ pair (get_or xs i 0) (get_or ys i 0)
unfolding zip_pairs
zip_within [] ys i h = absurd (omega arith)
zip_within (x ∷ xs) [] i h = absurd (omega arith)
zip_within (x ∷ xs) (y ∷ ys) zero h = refl
zip_within (x ∷ xs) (y ∷ ys) (suc i) h = zip_within xs ys i (omega arith)

pub zip_at : (xs ys : List ℕ) (i : ℕ) → length ys ≡ length xs → i < length xs → get_or (zip_pairs xs ys) i no_pair ≡ pair (get_or xs i 0) (get_or ys i 0)
zip_at xs ys i e h = zip_within xs ys i (omega (arith, zip_length xs ys e))

pub zip_seconds : (xs ys : List ℕ) → length ys ≡ length xs → seconds_of (zip_pairs xs ys) ≡ ys
unfolding zip_pairs seconds_of
zip_seconds [] [] e = refl
zip_seconds [] (y ∷ ys) e = absurd (omega arith)
zip_seconds (x ∷ xs) [] e = absurd (omega arith)
zip_seconds (x ∷ xs) (y ∷ ys) e = ap (λ (l : List ℕ). y ∷ l) (zip_seconds xs ys (omega arith))

pub firsts_length : (xs : List Pair) → length (firsts_of xs) ≡ length xs
unfolding firsts_of
firsts_length [] = refl
firsts_length (x ∷ xs) = ap suc (firsts_length xs)

pub seconds_length : (xs : List Pair) → length (seconds_of xs) ≡ length xs
unfolding seconds_of
seconds_length [] = refl
seconds_length (x ∷ xs) = ap suc (seconds_length xs)

pub firsts_append : (ps qs : List Pair) → firsts_of (ps ++ qs) ≡ firsts_of ps ++ firsts_of qs
unfolding firsts_of
firsts_append [] qs = refl
firsts_append (p ∷ ps) qs = ap (λ (l : List ℕ). p.first ∷ l) (firsts_append ps qs)

pub seconds_append : (ps qs : List Pair) → seconds_of (ps ++ qs) ≡ seconds_of ps ++ seconds_of qs
unfolding seconds_of
seconds_append [] qs = refl
seconds_append (p ∷ ps) qs = ap (λ (l : List ℕ). p.second ∷ l) (seconds_append ps qs)

pub zip_ends : (xs : List Pair) → zip_pairs (firsts_of xs) (seconds_of xs) ≡ xs
unfolding zip_pairs firsts_of seconds_of
zip_ends [] = refl
zip_ends (x ∷ xs) = ap (λ (l : List Pair). x ∷ l) (zip_ends xs)

pub pairs_stored : (xs : List Pair) (us vs : List ℕ) → length xs ≤ length us → length xs ≤ length vs →
    pairs_of (length xs) (sets us 0 (firsts_of xs)) (sets vs 0 (seconds_of xs)) ≡ xs
pairs_stored xs us vs h k =
    let f = firsts_length xs in
    let s = seconds_length xs in
    let a : take (length xs) (sets us 0 (firsts_of xs)) ≡ firsts_of xs = rw f at (take_sets us (firsts_of xs) (omega arith)) in
    let b : take (length xs) (sets vs 0 (seconds_of xs)) ≡ seconds_of xs = rw s at (take_sets vs (seconds_of xs) (omega arith)) in
    rw (a, b) (zip_ends xs)
