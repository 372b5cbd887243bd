-- The promises of pairings kept under names, over any calls in a row from power-on.
--   comes_back                                    what comes back
--   places, nineteen_is, makes_room               names and places
--   kept_pairings, stock_anew, refusals_leave     what is kept, and what a stock brought and a refusal do to it
--   keep_asks, kept_again, plans_kept             what can be kept
--   returns_kept                                  line ends
--   apart                                         these calls among those that count for a caller
--   blocks_follow, blocks_tell, blocks_return     the state as a block of bytes
use mathlib.Core.Path.{◌≡◌, refl, sym, ap, subst, ◌∙◌}
use mathlib.Core.Logic.{⊎_elim}
use mathlib.Core.Bool.{true, false, ◌||◌, not}
use mathlib.Core.List.{List, [], ◌∷◌, ◌++◌}
use Prim.Native.Nat.{ℕ, ◌<◌}
use native.Mathlib.Omega.{arith}
use lib.Dec.{eqb, ltb}
use lib.ListN.{length, drop, replicate}
use borrow.Author.Tests.{eqb-true, eqb-false, eq-eqb, ne_eqb, lt-ltb, le-ltb, ltb-false, le-leb, lt-leb, not-true}
use Rattle.formats.specs.Limits.{room, names_most}
use Rattle.counting.specs.Tests.{all, any}
use Rattle.counting.specs.Pairs.{zip_pairs, pair_named}
use Rattle.counting.specs.declared.Pair.{Pair}
use Rattle.counting.proofs.Booleans.{and_two, and_five, and_both, or_right, or_false_left, or_false_right, by_test, true_false}
use Rattle.counting.proofs.Membership.{each_all}
use Rattle.counting.proofs.NoRepeats.{distinct_none_twice}
use Rattle.frames.specs.EitherEnd.{with_returns}
use Rattle.frames.specs.Frames.{or_else}
use Rattle.frames.specs.Questions.{ask, first_no, answer_to}
use Rattle.frames.proofs.Questions.{or_stop, or_go, or_none, chain_first, or_first, accepted, refusal_is}
use Rattle.matching.specs.Stock.{has_pair, none_shared, is_pairing, greatest, pairs_rise, same_pairs, keeps_lit}
use Rattle.matching.proofs.LookUp.{all_found}
use Rattle.matching.proofs.Matchings.{list_named}
use Rattle.matching.proofs.Promises.{well_formed_fits}
use Rattle.files.specs.StockFile.{stock_in, stock_fault, plan_text}
use Rattle.files.specs.PlanFile.{plan_pairs, plan_shape, pairing_questions, plan_questions, plan_fault}
use Rattle.files.specs.SameLines.{SameLines}
use Rattle.files.proofs.SameLines.{returns_same, too_long}
use Rattle.files.proofs.AcceptedFiles.{accepted_stock, stock_few}
use Rattle.files.proofs.AnswerLines.{plan_size}
use Rattle.files.proofs.PlanFiles.{plan_few, plan_accepted}
use Rattle.files.specs.Answers.{over}
use Rattle.lanes.specs.Entry.{Told, room_fault, told}
use Rattle.lanes.specs.Tallies as tallies
use Rattle.kept.specs.State.{State, power_on, is_named, is_kept, without, pairs_under, KeptCall, bring, keep_as, come_back, name_fault, place_fault, fault_of, KeptAnswer, answer_of, after, after_calls}
use Rattle.kept.specs.Block.{block_size, entries_in, state_of, Owes, Returns, Led}
use Rattle.kept.specs.Promise.{reached, LastKept, ComesBack, Places, NineteenIs, MakesRoom, KeptPairings, StockAnew, RefusalsLeave, KeepAsks, KeptAgain, PlansKept, ReturnsKept, counted, kept, memory_after, after_any, counted_ones, kept_ones, Apart, BlocksFollow, BlocksTell, BlocksReturn}
use Rattle.kept.proofs.ByName.{kept_entry, without_gone, without_fewer}
use Rattle.kept.proofs.Reached.{reached_sound}
use Rattle.kept.proofs.Standing.{calls_joined, quiet_same, keeping_stands, kept_since}

-- COMING BACK
pub comes_back : ComesBack
unfolding any after_calls
comes_back ks n size h = (comes, none)
  where
    comes : (f : List ℕ) → LastKept n ks f → answer_of (reached ks) (come_back n size) ≡ record { number = 0; text = plan_text (plan_pairs f) }
    comes f L =
        let s = after (reached L.before) (keep_as n f) in
        let joined : reached ks ≡ after_calls s L.later = ap reached L.calls ∙ calls_joined power_on L.before (keep_as n f ∷ L.later) in
        let same = quiet_same n s L.later L.quiet in
        let first = keeping_stands n (reached L.before) f L.accepted in
        let is : is_kept (reached ks) n ≡ true = rw joined (same.0 ∙ first.0) in
        let pairs : pairs_under n (reached ks).kept ≡ plan_pairs f = rw joined (same.1 ∙ first.1) in
        rw (le-leb room size h, is, pairs)

    none : ((f : List ℕ) → LastKept n ks f → ⊥) → answer_of (reached ks) (come_back n size) ≡ record { number = 18; text = [] }
    none never =
        by_test (is_kept (reached ks) n) (λ t. absurd (⊎_elim (λ d. never d.0 d.1) (λ r. true_false r.0 refl) (kept_since n [] ks t)))
        (λ t. rw (le-leb room size h, t))

-- NAMES AND PLACES
pub places : Places
places ks = let S = reached_sound ks in (S.few, distinct_none_twice _ S.once)

or_last : (a b : ℕ) → b ≡ 0 → or_else a b ≡ a
or_last a b e = by_test (eqb a 0) (λ t. rw (t, e) (sym (eqb-true a 0 t))) (λ t. rw t)

place_full : (ks : List KeptCall) (n : ℕ) → place_fault (reached ks) n ≡ 19 → (is_kept (reached ks) n ≡ false) × (length (reached ks).kept ≡ 8)
place_full ks n e =
    let s = reached ks in
    by_test (is_kept s n || ltb (length s.kept) names_most)
    (λ t. let z : place_fault s n ≡ 0 = rw t in absurd (omega arith))
    (λ t. (
      or_false_left (is_kept s n) (ltb (length s.kept) names_most) t,
      omega (arith, (reached_sound ks).few, ltb-false (length s.kept) names_most (or_false_right (is_kept s n) (ltb (length s.kept) names_most) t)),
    ))

pub nineteen_is : NineteenIs
nineteen_is ks n f =
    let s = reached ks in
    let fault = plan_fault s.cameras s.fits f in (
      λ e.
          by_test (eqb fault 0)
          (λ t. let z = eqb-true fault 0 t in let r = place_full ks n (sym (or_go fault (place_fault s n) z) ∙ e) in (z, r.0, r.1))
          (λ t.
          let is : fault ≡ 19 = sym (or_stop fault (place_fault s n) (eqb-false fault 0 t)) ∙ e in
          let other = refusal_is (λ (k : ℕ). not (eqb k 19)) (plan_questions s.cameras s.fits f) refl refl in
          true_false (eq-eqb fault 19 is) (not-true (eqb fault 19) other)),
      λ r. or_go fault (place_fault s n) r.0 ∙ rw (r.1, le-ltb (length s.kept) names_most (omega (arith, r.2))),
    )

pub makes_room : MakesRoom
makes_room ks m n f e =
    let s = reached ks in
    let is = accepted 18 (ask 18 (is_kept s m) ∷ []) refl e in
    let fewer : ltb (length (without m s.kept)) names_most ≡ true =
    lt-ltb (length (without m s.kept)) names_most (omega (arith, (reached_sound ks).few, (without_fewer m s.kept).1 is)) in
    rw is (
      without_gone m s.kept,
      or_last (plan_fault s.cameras s.fits f) _ (rw (or_right (any (is_named n) (without m s.kept)) (ltb (length (without m s.kept)) names_most) fewer)),
    )

-- WHAT IS KEPT
pub kept_pairings : KeptPairings
kept_pairings ks x m =
    let S = reached_sound ks in
    let fs = (reached ks).fits in
    let e = S.pairings x m in
    let yes : (n : ℕ) → answer_to n (pairing_questions (reached ks).cameras fs x.pairs) ≡ true =
    λ n. accepted n (pairing_questions (reached ks).cameras fs x.pairs) refl e in
    let plan = plan_accepted (reached ks).cameras fs x.pairs S.stocked e in
    let few = plan_few (reached ks).cameras fs (plan_text x.pairs) S.stocked plan.0 in
    let long = ap (λ (ps : List Pair). length ps) plan.1 in (
      and_both (all (has_pair fs) x.pairs) (none_shared x.pairs) (sym (all_found fs x.pairs S.rising) ∙ yes 13) (yes 14),
      yes 12,
      yes 9,
      omega (arith, few, long, plan_size x.pairs),
    )

pub stock_anew : StockAnew
stock_anew s f e = rw (eq-eqb (stock_fault f) 0 e) (refl, refl, refl)

pub refusals_leave : RefusalsLeave
refusals_leave s k h = rw (ne_eqb (fault_of s k) 0 h) (refl, refl)

pub keep_asks : KeepAsks
keep_asks ks n f =
    let s = reached ks in
    let place = ask 19 (is_kept s n || ltb (length s.kept) names_most) ∷ [] in
    let later = pairing_questions s.cameras s.fits (plan_pairs f) ++ place in
    or_first (plan_questions s.cameras s.fits f) place refl refl refl ∙
    sym (or_first (plan_shape f) later refl refl (rw (← all_found s.fits (plan_pairs f) (reached_sound ks).rising) (chain_first later refl)))

pub kept_again : KeptAgain
kept_again ks n m size e =
    let s = reached ks in
    let S = reached_sound ks in
    let is = accepted 18 (ask 18 (is_kept s n) ∷ []) refl (or_none (room_fault size) (name_fault s n) e).1 in
    let x = kept_entry n s.kept is in
    let plan = plan_accepted s.cameras s.fits x.0.pairs S.stocked (S.pairings x.0 x.1) in
    rw (eq-eqb (fault_of s (come_back n size)) 0 e, x.2)
    (or_go (plan_fault s.cameras s.fits (plan_text x.0.pairs)) (place_fault s m) plan.0, ap plan_text plan.1)

pub plans_kept : PlansKept
unfolding any
plans_kept s f ps n e plan =
    let t = stock_in f in
    let w = accepted_stock f e in
    let parts =
    and_five (is_pairing t.fits ps) (eqb (length ps) (greatest t.fits)) (keeps_lit t ps) (pairs_rise ps) (not (eqb (length t.lit) (greatest t.fits)) || same_pairs ps t.lit) plan in
    let pairing = and_two (all (has_pair t.fits) ps) (none_shared ps) parts.0 in
    let named : all (pair_named t.cameras) ps ≡ true =
    each_all (pair_named t.cameras) ps
    (λ x m.
    let low = list_named t.cameras t.fits (well_formed_fits t w) ps parts.0 x m in
    rw (lt-ltb x.first t.cameras (omega (arith, low.0, low.1)), lt-ltb x.second t.cameras low.1)) in
    let asked : first_no (pairing_questions t.cameras t.fits ps) ≡ 0 =
    rw (named, parts.3, all_found t.fits ps w.rising, pairing.0, pairing.1) in
    let taken = plan_accepted t.cameras t.fits ps (stock_few f e) asked in
    (rw (eq-eqb (stock_fault f) 0 e) (or_go (plan_fault t.cameras t.fits (plan_text ps)) 0 taken.0), taken.1)

-- LINE ENDS
kept_alike : (s : State) (n : ℕ) (f g : List ℕ) → SameLines f g →
    (fault_of s (keep_as n f) ≡ fault_of s (keep_as n g)) × (after s (keep_as n f) ≡ after s (keep_as n g)) × (fault_of s (bring f) ≡ fault_of s (bring g)) ×
    (after s (bring f) ≡ after s (bring g))
kept_alike s n f g e = (rw (e.0, e.1, e.2), rw (e.0, e.1, e.2), rw (e.0, e.1, e.2), rw (e.0, e.1, e.2))

pub returns_kept : ReturnsKept
returns_kept z s n f = (
  λ h. kept_alike s n (with_returns z f) f (returns_same z f h),
  λ h. let t = too_long (with_returns z f) h in (rw (t.3 s.cameras s.fits), t.1),
)

-- AMONG OTHER CALLS
pub apart : Apart
unfolding after_calls after_any counted_ones kept_ones tallies.after_calls
apart m [] = (refl, refl)
apart m (counted k ∷ ks) = apart (memory_after m (counted k)) ks
apart m (kept k ∷ ks) = apart (memory_after m (kept k)) ks

-- BLOCKS
led_follows : (b c : List ℕ) (ks : List KeptCall) → Led b ks c → state_of c ≡ after_calls (state_of b) ks
unfolding after_calls Led
led_follows b c [] l = ap state_of l
led_follows b c (k ∷ ks) l = led_follows l.1.0 c ks l.1.1.1 ∙ ap (λ (s : State). after_calls s ks) l.1.1.0.leaves

pub blocks_follow : BlocksFollow
unfolding entries_in zip_pairs
blocks_follow =
    let none : state_of (replicate block_size 0) ≡ power_on = refl in
    (none, led_follows, λ c ks l. led_follows (replicate block_size 0) c ks l ∙ ap (λ (s : State). after_calls s ks) none)

led_more : (b c d : List ℕ) (ks : List KeptCall) (k : KeptCall) (n : ℕ) → Led b ks c → Owes c k n d → Led b (ks ++ k ∷ []) d
unfolding Led
led_more b c d [] k n l w = (n, (d, (subst (λ (x : List ℕ). Owes x k n d) l w, refl)))
led_more b c d (j ∷ ks) k n l w = (l.0, (l.1.0, (l.1.1.0, led_more l.1.0 c d ks k n l.1.1.1 w)))

pub blocks_tell : BlocksTell
blocks_tell b c ks k n l w = (
  w.says ∙ ap (λ (s : State). fault_of s k) (blocks_follow.2 b ks l),
  w.untouched,
  led_more (replicate block_size 0) b c ks k n l w,
)

back_same : (s : State) (n size : ℕ) → s ≡ after s (come_back n size)
back_same s n size = by_test (eqb (fault_of s (come_back n size)) 0) (λ t. rw t) (λ t. rw t)

-- what coming back tells and leaves, by what it answers
returned : (b o v : List ℕ) (k : KeptCall) (r : Told) {s : State} {a : KeptAnswer} → Returns b k o r v → state_of b ≡ s → answer_of s k ≡ a →
    (r ≡ told a.number (length a.text)) × (v ≡ over a.text o)
returned b o v k r w e q =
    let same : answer_of (state_of b) k ≡ _ = ap (λ (s : State). answer_of s k) e ∙ q in (
      w.tells ∙ ap (λ (x : KeptAnswer). told x.number (length x.text)) same,
      w.bytes ∙ ap (λ (x : KeptAnswer). over x.text o) same,
    )

pub blocks_return : BlocksReturn
blocks_return b o v ks n r l w =
    let k = come_back n (length o) in
    let e = blocks_follow.2 b ks l in
    let short : length o < room → answer_of (reached ks) k ≡ record { number = 1; text = [] } = λ h. rw (lt-leb room (length o) h) in (
      record { says = ap (λ (t : Told). t.number) w.tells; leaves = back_same (state_of b) n (length o); untouched = λ _. refl },
      λ h. let x = returned b o v k r w e (short h) in (ap (λ (t : Told). t.number) x.0, ap (λ (t : Told). t.size) x.0, x.1),
      λ h.
          let back = comes_back ks n (length o) h in (
            λ f L.
                let x = returned b o v k r w e (back.0 f L) in
                let size = plan_size (plan_pairs f) in
                (ap (λ (t : Told). t.number) x.0, ap (λ (t : Told). t.size) x.0 ∙ size, x.1 ∙ ap (λ (i : ℕ). plan_text (plan_pairs f) ++ drop i o) size),
            λ never. let x = returned b o v k r w e (back.1 never) in (ap (λ (t : Told). t.number) x.0, ap (λ (t : Told). t.size) x.0, x.1),
          ),
    )
