-- A name looked for among the entries, the last kept first.
--   downward a n           the n numbers from a on, the largest first
--   slots_downward         the slots are looked at in this order
--   has_name b n i         slot i has the name
--   found_last             what is found by looking for the first that has
--   place_asked            question 19, by the slot that is found
use Rattle.std.proofs.Common.{◌≡◌, ℕ, zero, suc, ◌+◌, ◌-◌, ◌<◌, List, [], ◌∷◌, length, get_or, refl, ap, subst, ◌∙◌, arith, zero-add}
use Rattle.std.specs.Prelude.{Bool, true, false, ◌||◌, eqb, ltb, Option, Some, None, MatchOption}
use Rattle.std.specs.Option.{is_some, option_map}
use Rattle.std.specs.List.{find}
use Rattle.std.specs.declared.iter.Rev.{Rev}
use Rattle.std.specs.declared.ops.Range.{Range}
use Rattle.std.specs.Iterator.Adapters.{rev_source, rev_steps}
use Rattle.std.proofs.lemmas.Iterator.{YieldsList}
use Rattle.std.proofs.lemmas.Iterator.Consumers.{YieldsList-from_shown}
use Rattle.formats.specs.Limits.{names_most}
use Rattle.counting.specs.Tests.{any}
use Rattle.counting.proofs.Booleans.{by_test}
use Rattle.frames.specs.Frames.{unless}
use Rattle.kept.specs.declared.slot.Slot.{Slot}
use Rattle.kept.specs.State.{is_named, is_kept, pairs_under, place_fault}
use Rattle.kept.specs.Block.{kept_in, slot_at, named_in, entries_in, state_of}
use Rattle.kept.specs.Slots.{NameFound}
use Rattle.kept.proofs.Entries.{entries_length, name_at}

-- THE ORDER
unfoldable pub downward : (from size : ℕ) → List ℕ
downward a zero = []
downward a (suc n) = (a + n) ∷ downward a n

downward_long : (a n : ℕ) → length (downward a n) ≡ n
unfolding downward
downward_long a zero = refl
downward_long a (suc n) = ap suc (downward_long a n)

abbrev back_steps : Range ℕ → Option ℕ → Range ℕ → Type 0
back_steps s r t =
    (t.start ≡ s.start) × MatchOption r ((s.end - s.start ≡ 0) × (t.end ≡ s.end)) (λ x. (0 < s.end - s.start) × (x ≡ t.end) × (s.end ≡ t.end + 1))

left : Range ℕ → List ℕ
left s = downward s.start (s.end - s.start)

left_next : (s t : Range ℕ) (x : ℕ) → back_steps s (Some x) t → left s ≡ x ∷ left t
unfolding downward left
left_next s t x p =
    let e : s.end - s.start ≡ suc (t.end - t.start) = omega (arith, p.0, p.1.0, p.1.2) in
    let f : x ≡ s.start + (t.end - t.start) = omega (arith, p.0, p.1.0, p.1.1, p.1.2) in
    rw (e, f, p.0) refl

pub slots_downward : (s : Rev (Range ℕ)) {count : ℕ} → rev_source s ≡ record { start = 0; end = count } →
    YieldsList (rev_steps back_steps) (λ x. x) s (downward 0 count)
unfolding left
slots_downward s {count} e =
    let shown = YieldsList-from_shown (rev_steps back_steps) (λ x. x) (λ u. left (rev_source u)) (λ u t p. downward_long _ _ ∙ p.1.0)
    (λ u x t p. left_next (rev_source u) (rev_source t) x p) s in
    let z : count - 0 ≡ count = omega arith in
    rw z at (subst (λ (r : Range ℕ). YieldsList (rev_steps back_steps) (λ x. x) s (left r)) e shown)

-- THE SLOT
module _ (b : List ℕ) (n : ℕ) where
  abbrev pub has_name : (slot : ℕ) → Bool
  has_name i = eqb (get_or b (slot_at i) 0) n

  abbrev FoundIn : (slots : ℕ) → (found : Option ℕ) → Type 0
  FoundIn m None = any (is_named n) (entries_in m b) ≡ false
  FoundIn m (Some i) = (i < m) × (any (is_named n) (entries_in m b) ≡ true) × (pairs_under n (entries_in m b) ≡ (named_in i b).pairs)

  found_later : (m : ℕ) (r : Option ℕ) → is_named n (named_in m b) ≡ false → FoundIn m r → FoundIn (suc m) r
  unfolding entries_in any pairs_under
  found_later m None e f = rw e f
  found_later m (Some i) e f = (omega (arith, f.0), rw e f.1, rw e f.2)

  found_in : (m : ℕ) → FoundIn m (find has_name (downward 0 m))
  unfolding downward entries_in any pairs_under
  found_in zero = refl
  found_in (suc m) =
      let same : is_named n (named_in m b) ≡ has_name m = rw (name_at m b) in
      by_test (has_name m) (λ t. rw (zero-add, t) (omega arith, rw (same, t), rw (same, t))) (λ t. rw (zero-add, t) (found_later m _ (same ∙ t) (found_in m)))

  pub found_last : (r : Option Slot) → option_map (λ (s : Slot). s.number) r ≡ find has_name (downward 0 (kept_in b)) → NameFound b n r
  found_last None e = rw (← e) at (found_in (kept_in b))
  found_last (Some s) e = rw (← e) at (found_in (kept_in b))

  found_named : (r : Option Slot) → NameFound b n r → is_kept (state_of b) n ≡ is_some r
  found_named None f = f
  found_named (Some s) f = f.1

  pub place_asked : (r : Option Slot) → NameFound b n r → place_fault (state_of b) n ≡ unless (is_some r || ltb (kept_in b) names_most) 19
  place_asked r f = rw (found_named r f, entries_length (kept_in b) b)
