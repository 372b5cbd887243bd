-- What the questions let a reader store at the front of a slice, and what is read back of it.
--   stored_all, all_stored, none_stored     all where no question is answered no, and else nothing
--   back_stored                             what was stored, read back
--   store_room, store_end                   stored one by one into a lent slice: there is room for one more; all are
--   seconds_next, seconds_none              the classes of the lines left: the next line's, and those behind it; of no line
--   zip_next, zip_none                      the pairs of the numbers left
--   zip_least                               how many pairs there are of two lists
use Rattle.std.proofs.Common.{◌≡◌, refl, ◌≢◌, ◌⊎◌, inl, inr, ap, subst, sym, ◌∙◌, List, [], ◌∷◌, ℕ, ◌+◌, ◌≤◌, arith, ◌<◌, length, get_or, take, drop, min}
use lib.Seq.{length-sets}
use lib.ListN.{drop_of_length-le}
use borrow.Author.Tests.{ne_eqb}
use Rattle.std.specs.Borrow.{MutBor}
use Rattle.counting.specs.Pairs.{pair, no_pair, seconds_of, zip_pairs}
use Rattle.counting.specs.SliceVecs.{Begun, Extending}
use Rattle.counting.specs.declared.Pair.{Pair}
use Rattle.counting.specs.declared.slice_vec.SliceVec.{SliceVec}
use Rattle.counting.proofs.Loops.{next_in}
use Rattle.counting.proofs.SliceVecs.{extended_long, extended_lent, extending_end, extending_room}
use Rattle.counting.proofs.Stores.{take_sets}
use Rattle.frames.specs.Questions.{Question, first_no}
use Rattle.frames.specs.Stores.{StoredFirst}
use Rattle.files.specs.Tables.{stored}

-- WHAT IS STORED, or what f makes of it
module _ {A B : Type 0} (f : List A → List B) (qs : List Question) (xs : List A) where
  pub stored_all : first_no qs ≡ 0 → f (stored qs xs) ≡ f xs
  stored_all e = rw e

  pub all_stored : {ys zs : List B} → first_no qs ≡ 0 → StoredFirst (f xs) ys zs → StoredFirst (f (stored qs xs)) ys zs
  all_stored {ys} {zs} e = subst (λ (us : List B). StoredFirst us ys zs) (sym (stored_all e))

  pub none_stored : (ys : List B) → f [] ≡ [] → first_no qs ≢ 0 → StoredFirst (f (stored qs xs)) ys ys
  none_stored ys z h =
      let e : f (stored qs xs) ≡ [] = rw (ne_eqb _ _ h) z in
      record { room = rw e (omega arith); entries_are = rw e }

-- READ BACK
pub back_stored : {A : Type 0} {xs ys zs : List A} {c : ℕ} → c ≡ length xs → StoredFirst xs ys zs → (c ≤ length zs) × (take c zs ≡ xs)
back_stored {xs = xs} {ys} {zs} {c} e s =
    let l : length zs ≡ length ys = ap length s.entries_are ∙ length-sets ys 0 xs in
    (omega (arith, s.room), rw (e, s.entries_are) (take_sets ys xs s.room))

-- ONE BY ONE
module _ {A : Type 0} {slice : MutBor (List A)} {v w : SliceVec A} (b : Begun slice v) where
  pub store_room : {xs left left' : List A} {x : A} → Extending v xs w left → left ≡ x ∷ left' → length xs ≤ length slice.now → w.len < length w.slice.now
  store_room E e h =
      let r = extending_room E (omega (arith, b.empty, ap length b.slice_is)) in
      omega (arith, ap length e)

  pub store_end : {xs left after : List A} → Extending v xs w left → left ≡ [] → (slice.ghost_name ≡ w.slice.ghost_name → after ≡ w.slice.now) →
      StoredFirst xs slice.now after × (w.len ≡ length xs)
  store_end {xs} E e same =
      let x = extending_end E e in
      let n : w.len ≡ length xs = omega (arith, b.empty, x.len_is) in (
        record {
          room = omega (arith, w.fits, extended_long x, ap length b.slice_is);
          entries_are = extended_lent b x same;
        },
        n,
      )

pub seconds_next : (lines : List Pair) (i : ℕ) → i < length lines → seconds_of (drop i lines) ≡ (get_or lines i no_pair).second ∷ seconds_of (drop (i + 1) lines)
unfolding seconds_of
seconds_next lines i h = rw (next_in lines no_pair i h).is

pub seconds_none : (lines : List Pair) (i : ℕ) → length lines ≤ i → seconds_of (drop i lines) ≡ []
unfolding seconds_of
seconds_none lines i h = rw (drop_of_length-le lines h)

pub zip_next : {us vs us' vs' : List ℕ} {u v : ℕ} → us ≡ u ∷ us' → vs ≡ v ∷ vs' → zip_pairs us vs ≡ pair u v ∷ zip_pairs us' vs'
unfolding zip_pairs
zip_next d e = rw (d, e)

pub zip_none : (us vs : List ℕ) → (length us ≡ 0) ⊎ (length vs ≡ 0) → zip_pairs us vs ≡ []
unfolding zip_pairs
zip_none [] vs h = refl
zip_none (u ∷ us) [] h = refl
zip_none (u ∷ us) (v ∷ vs) (inl h) = absurd (omega arith)
zip_none (u ∷ us) (v ∷ vs) (inr h) = absurd (omega arith)

pub zip_least : (us vs : List ℕ) → length (zip_pairs us vs) ≡ min (length us) (length vs)
unfolding zip_pairs
zip_least [] vs = omega arith
zip_least (u ∷ us) [] = omega arith
zip_least (u ∷ us) (v ∷ vs) = omega (arith, zip_least us vs)
