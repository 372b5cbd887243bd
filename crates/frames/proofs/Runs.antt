-- Runs of lines of one kind (specs/Stores).
--   run_kept, past_kept          a line of the kind at the front: the run, and what stands past it
--   run_none, past_none          a line of another kind at the front
--   run_nil, past_nil            no line
--   past_each                    what holds of all lines holds of those past a run
--   other_kind, frames_kind      a line of one kind is of no other; frames of a kind have that kind
--   run_append, past_append      lines of the kind before others
--   run_only                     lines of one kind, then one of another: the run is all but that one
--   run_first, past_first        lines of one kind, then of a second kind, then one of neither: the first run, what stands past it,
--   run_second                   and the second run
--   pairs_append, pairs_other    the pairs of a kind, of lines behind others and of lines of another kind
--   run_pairs                    a run has as many pairs as lines
--   pairs_first, pairs_second    so each run has the pairs of its kind of all these lines
use mathlib.Core.Path.{◌≡◌, refl, ap, sym, ◌∙◌}
use mathlib.Core.Logic.{◌≢◌}
use mathlib.Core.Bool.{Bool, true, false}
use mathlib.Core.List.{List, [], ◌∷◌, ◌++◌, append_assoc, append-nil}
use Prim.Native.Nat.{ℕ, suc}
use lib.ListN.{length}
use borrow.Author.Tests.{ne_eqb, eqb-true}
use Rattle.counting.specs.Tests.{all}
use Rattle.counting.specs.declared.Pair.{Pair}
use Rattle.counting.proofs.Booleans.{and_left, and_right, by_test}
use Rattle.counting.proofs.Membership.{all_each, each_all}
use Rattle.frames.specs.Frames.{kind_of, is_frame_of, pair_in, pairs_in}
use Rattle.frames.specs.Stores.{has_kind, run_of, past_run}

-- THE LINE AT THE FRONT
module _ (k : ℕ) (l : List ℕ) (ls : List (List ℕ)) where
  pub run_kept : has_kind k l ≡ true → run_of k (l ∷ ls) ≡ l ∷ run_of k ls
  unfolding run_of
  run_kept h = rw h

  pub past_kept : has_kind k l ≡ true → past_run k (l ∷ ls) ≡ past_run k ls
  unfolding past_run
  past_kept h = rw h

  pub run_none : has_kind k l ≡ false → run_of k (l ∷ ls) ≡ []
  unfolding run_of
  run_none h = rw h

  pub past_none : has_kind k l ≡ false → past_run k (l ∷ ls) ≡ l ∷ ls
  unfolding past_run
  past_none h = rw h

pub run_nil : (k : ℕ) → run_of k [] ≡ []
unfolding run_of
run_nil k = refl

pub past_nil : (k : ℕ) → past_run k [] ≡ []
unfolding past_run
past_nil k = refl

pub past_each : (p : List ℕ → Bool) (k : ℕ) (ls : List (List ℕ)) → all p ls ≡ true → all p (past_run k ls) ≡ true
unfolding all past_run
past_each p k [] h = refl
past_each p k (l ∷ ls) h = by_test (has_kind k l) (λ e. rw e (past_each p k ls (and_right (p l) (all p ls) h))) (λ e. rw e h)

-- KINDS
pub other_kind : (k m : ℕ) (l : List ℕ) → has_kind m l ≡ true → m ≢ k → has_kind k l ≡ false
other_kind k m l h n = let e : kind_of l ≡ m = eqb-true _ _ h in ne_eqb _ _ (λ (q : kind_of l ≡ k). n (sym e ∙ q))

pub frames_kind : (k n : ℕ) (ls : List (List ℕ)) → all (is_frame_of k n) ls ≡ true → all (has_kind k) ls ≡ true
frames_kind k n ls h = each_all (has_kind k) ls (λ l i. and_left (has_kind k l) _ (all_each (is_frame_of k n) ls h l i))

-- LINES OF A KIND before others
module _ (k : ℕ) (ms : List (List ℕ)) where
  run_append : (ls : List (List ℕ)) → all (has_kind k) ls ≡ true → run_of k (ls ++ ms) ≡ ls ++ run_of k ms
  unfolding all
  run_append [] h = refl
  run_append (l ∷ ls) h =
      run_kept k l (ls ++ ms) (and_left (has_kind k l) (all (has_kind k) ls) h) ∙
      ap (λ (rs : List (List ℕ)). l ∷ rs) (run_append ls (and_right (has_kind k l) (all (has_kind k) ls) h))

  past_append : (ls : List (List ℕ)) → all (has_kind k) ls ≡ true → past_run k (ls ++ ms) ≡ past_run k ms
  unfolding all
  past_append [] h = refl
  past_append (l ∷ ls) h =
      past_kept k l (ls ++ ms) (and_left (has_kind k l) (all (has_kind k) ls) h) ∙
      past_append ls (and_right (has_kind k l) (all (has_kind k) ls) h)

pub run_only : (k : ℕ) (ls : List (List ℕ)) (last : List ℕ) → all (has_kind k) ls ≡ true → has_kind k last ≡ false →
    run_of k (ls ++ last ∷ []) ≡ ls
run_only k ls last h z = run_append k (last ∷ []) ls h ∙ rw (run_none k last [] z) (append-nil ls)

-- PAIRS of a kind
pairs_append : (k : ℕ) (ls ms : List (List ℕ)) → pairs_in k (ls ++ ms) ≡ pairs_in k ls ++ pairs_in k ms
unfolding pairs_in
pairs_append k [] ms = refl
pairs_append k (l ∷ ls) ms =
    by_test (has_kind k l) (λ e. rw e (ap (λ (ps : List Pair). pair_in l ∷ ps) (pairs_append k ls ms))) (λ e. rw e (pairs_append k ls ms))

pub pairs_other : (k m : ℕ) (ls : List (List ℕ)) → all (has_kind m) ls ≡ true → m ≢ k → pairs_in k ls ≡ []
unfolding all pairs_in
pairs_other k m [] h n = refl
pairs_other k m (l ∷ ls) h n =
    rw (other_kind k m l (and_left (has_kind m l) (all (has_kind m) ls) h) n)
    (pairs_other k m ls (and_right (has_kind m l) (all (has_kind m) ls) h) n)

pub run_pairs : (k : ℕ) (ls : List (List ℕ)) → length (pairs_in k (run_of k ls)) ≡ length (run_of k ls)
unfolding run_of pairs_in
run_pairs k [] = refl
run_pairs k (l ∷ ls) = by_test (has_kind k l) (λ e. rw (e, e) (ap suc (run_pairs k ls))) (λ e. rw e)

-- TWO KINDS, then a line of neither
module _ (k m : ℕ) (apart : m ≢ k) (ls ms : List (List ℕ)) (of_k : all (has_kind k) ls ≡ true) (of_m : all (has_kind m) ms ≡ true) where
  pub pairs_first : pairs_in k ls ≡ pairs_in k (ls ++ ms)
  pairs_first = sym (pairs_append k ls ms ∙ rw (pairs_other k m ms of_m apart) (append-nil (pairs_in k ls)))

  pub pairs_second : pairs_in m ms ≡ pairs_in m (ls ++ ms)
  pairs_second = sym (pairs_append m ls ms ∙ rw (pairs_other m k ls of_k (λ e. apart (sym e))))

  module _ (last : List ℕ) (not_k : has_kind k last ≡ false) where
    turned : (rs : List (List ℕ)) → all (has_kind m) rs ≡ true →
        (run_of k (rs ++ last ∷ []) ≡ []) × (past_run k (rs ++ last ∷ []) ≡ rs ++ last ∷ [])
    unfolding all
    turned [] h = (run_none k last [] not_k, past_none k last [] not_k)
    turned (r ∷ rs) h =
        let z = other_kind k m r (and_left (has_kind m r) (all (has_kind m) rs) h) apart in
        (run_none k r (rs ++ last ∷ []) z, past_none k r (rs ++ last ∷ []) z)

    pub run_first : run_of k (ls ++ ms ++ last ∷ []) ≡ ls
    run_first =
        rw (append_assoc ls ms (last ∷ [])) (run_append k (ms ++ last ∷ []) ls of_k ∙ rw (turned ms of_m).0 (append-nil ls))

    past_first : past_run k (ls ++ ms ++ last ∷ []) ≡ ms ++ last ∷ []
    past_first = rw (append_assoc ls ms (last ∷ [])) (past_append k (ms ++ last ∷ []) ls of_k ∙ (turned ms of_m).1)

    pub run_second : has_kind m last ≡ false → run_of m (past_run k (ls ++ ms ++ last ∷ [])) ≡ ms
    run_second z = rw past_first (run_only m ms last of_m z)
