-- What ends a line, by its bytes. Laws of lines by place and by number stand on these.
--   end_none                         none past the file's end
--   end_bytes                        the bytes of a line end
--   byte_inside                      a byte that is not 0 stands within the file
--   front_feed, front_both, front_none     what stands at the front, by what the bytes there are compared with
--   end_fits, end_within             a line end stands within the file
--   end_above, end_digit             a byte that is no control character ends no line, nor does a digit
--   digit_other                      a digit is no byte that is none
--   by_front                         cases: a carriage return and a line feed at the front, a line feed, another byte
--   ends_more, feed_ends             whether the last line is ended, past a byte and past a line feed
--   lines_end, ends_end              the lines, and whether the last is ended, where a line end stands at the front
--   lines_byte, ends_byte            and where a byte of the line does
use mathlib.Core.Path.{◌≡◌, refl, sym, ap, ◌∙◌, subst}
use mathlib.Core.Logic.{◌⊎◌, inl, inr, ⊎_elim}
use mathlib.Core.Bool.{Bool, true, false, ◌&&◌, and-false}
use mathlib.Core.List.{List, [], ◌∷◌}
use Prim.Native.Nat.{ℕ, suc, ◌+◌, ◌≤◌, ◌<◌}
use native.Mathlib.Omega.{arith}
use lib.Dec.{eqb, ltb}
use Rattle.std.specs.List.{starts_with}
use Rattle.std.proofs.lemmas.Bool.Decides.{Decides-eqb}
use Rattle.std.proofs.lemmas.Slice.Eq.{starts_is}
use lib.ListN.{length, get_or, drop, length-drop, drop_of_length-le, get_or-eq_default}
use lib.Seq.{drop-cons, get_or-drop}
use borrow.Author.Tests.{ne_eqb, eqb-true, lt-ltb, ltb-true, ltb-false}
use Rattle.counting.specs.Tests.{pick}
use Rattle.counting.proofs.Booleans.{and_right, and_two, by_test, true_false}
use Rattle.frames.specs.Frames.{is_digit, is_cr_lf, with_byte, lines_of, ends_whole}
use Rattle.frames.specs.Lines.{line_end}

-- AT A PLACE, by the bytes there; past the file's end 0 stands for them
module _ (f : List ℕ) (i : ℕ) where
  pub end_none : length f ≤ i → line_end (drop i f) ≡ 0
  unfolding line_end
  end_none h = rw (drop_of_length-le f h)

  pub byte_inside : (get_or f i 0 ≡ 0 → ⊥) → i < length f
  byte_inside n = by_test (ltb i (length f)) (λ h. ltb-true _ _ h) (λ h. absurd (n (get_or-eq_default f 0 (ltb-false _ _ h))))

  second_byte : get_or (drop (suc i) f) 0 0 ≡ get_or f (i + 1) 0
  second_byte = get_or-drop (suc i) f 0 0 ∙ ap (λ (j : ℕ). get_or f j 0) (omega arith)

  end_here : line_end (drop i f) ≡ pick (eqb (get_or f i 0) 13 && eqb (get_or f (i + 1) 0) 10) 2 (pick (eqb (get_or f i 0) 10) 1 0)
  unfolding line_end
  end_here =
      by_test (ltb i (length f)) (λ h. rw (drop-cons f i 0 (ltb-true _ _ h), second_byte))
      (λ h. let p = ltb-false i (length f) h in end_none p ∙ rw (get_or-eq_default f 0 p))

  -- what a line end is made of
  pub end_bytes : 0 < line_end (drop i f) → (get_or f i 0 ≡ 10) ⊎ ((get_or f i 0 ≡ 13) × (get_or f (i + 1) 0 ≡ 10))
  end_bytes h =
      by_test (eqb (get_or f i 0) 10) (λ e. inl (eqb-true _ _ e))
      (λ e. by_test (eqb (get_or f i 0) 13 && eqb (get_or f (i + 1) 0) 10)
      (λ t. let r = and_two (eqb (get_or f i 0) 13) (eqb (get_or f (i + 1) 0) 10) t in inr (eqb-true _ _ r.0, eqb-true _ _ r.1))
      (λ t. absurd (omega (arith, rw (end_here, t, e) at h))))

-- AT THE FRONT
pub front_feed : (s : List ℕ) → starts_with eqb s (10 ∷ []) ≡ true → line_end s ≡ 1
unfolding line_end
front_feed s h = ap line_end ((starts_is Decides-eqb s (10 ∷ []) _ refl).0 h)

pub front_both : (s : List ℕ) → starts_with eqb s (13 ∷ 10 ∷ []) ≡ true → line_end s ≡ 2
unfolding line_end
front_both s h = ap line_end ((starts_is Decides-eqb s (13 ∷ 10 ∷ []) _ refl).0 h)

pub front_none : (s : List ℕ) → starts_with eqb s (10 ∷ []) ≡ false → starts_with eqb s (13 ∷ 10 ∷ []) ≡ false → line_end s ≡ 0
front_none s h g =
    by_test (ltb 0 (line_end s))
    (λ t.
    ⊎_elim
    (λ (e : get_or s 0 0 ≡ 10). true_false ((starts_is Decides-eqb s (10 ∷ []) _ refl).1 (drop 1 s) (front_is e)) h)
    (λ (e : (get_or s 0 0 ≡ 13) × (get_or s 1 0 ≡ 10)). true_false ((starts_is Decides-eqb s (13 ∷ 10 ∷ []) _ refl).1 (drop 2 s) (both_are e)) g)
    (end_bytes s 0 (ltb-true _ _ t)))
    (λ t. omega (arith, ltb-false _ _ t))
  where
    front_is : get_or s 0 0 ≡ 10 → s ≡ 10 ∷ drop 1 s
    front_is e =
        let k = byte_inside s 0 (λ z. absurd (omega arith)) in
        let d = drop-cons s 0 0 k in
        cc

    both_are : (get_or s 0 0 ≡ 13) × (get_or s 1 0 ≡ 10) → s ≡ 13 ∷ 10 ∷ drop 2 s
    both_are e =
        let k = byte_inside s 0 (λ z. absurd (omega arith)) in
        let l = byte_inside s 1 (λ z. absurd (omega arith)) in
        let d = drop-cons s 0 0 k in
        let g = drop-cons s 1 0 l in
        cc

-- HOW MANY BYTES it takes
crlf_more : (c : ℕ) (cs : List ℕ) → is_cr_lf c cs ≡ true → 0 < length cs
crlf_more c [] r = true_false r (and-false (eqb c 13))
crlf_more c (d ∷ ds) r = omega arith

pub end_fits : (s : List ℕ) → line_end s ≤ length s
unfolding line_end
end_fits [] = omega arith
end_fits (c ∷ cs) = by_test (is_cr_lf c cs) (λ r. rw r (omega (arith, crlf_more c cs r))) (λ r. rw r (fits (eqb c 10)))
  where
    fits : (b : Bool) → pick b 1 0 ≤ suc (length cs)
    fits true = omega arith
    fits false = omega arith

pub end_within : (f : List ℕ) (i : ℕ) → i ≤ length f → i + line_end (drop i f) ≤ length f
end_within f i h = omega (arith, end_fits (drop i f), length-drop i f)

pub end_above : (c : ℕ) (cs : List ℕ) → 32 ≤ c → line_end (c ∷ cs) ≡ 0
unfolding line_end
end_above c cs h = rw (ne_eqb c 13 (λ e. omega arith), ne_eqb c 10 (λ e. omega arith))

pub digit_other : (c b : ℕ) → is_digit c ≡ true → is_digit b ≡ false → eqb c b ≡ false
digit_other c b d n = ne_eqb c b (λ e. true_false d (ap is_digit e ∙ n))

pub end_digit : (c : ℕ) (cs : List ℕ) → is_digit c ≡ true → line_end (c ∷ cs) ≡ 0
unfolding line_end
end_digit c cs d = rw (digit_other c 13 d refl, digit_other c 10 d refl)

-- WHETHER THE LAST LINE IS ENDED
pub ends_more : (c : ℕ) (cs : List ℕ) → 0 < length cs → ends_whole (c ∷ cs) ≡ ends_whole cs
unfolding ends_whole
ends_more c [] h = absurd (omega arith)
ends_more c (d ∷ ds) h = refl

pub feed_ends : (rest : List ℕ) → ends_whole (10 ∷ rest) ≡ ends_whole rest
unfolding ends_whole
feed_ends [] = refl
feed_ends (c ∷ cs) = refl

-- A LINE END at the front
crlf_lines : (c : ℕ) (cs : List ℕ) → is_cr_lf c cs ≡ true → lines_of (c ∷ cs) ≡ [] ∷ lines_of (drop 1 cs)
unfolding lines_of
crlf_lines c [] r = true_false r (and-false (eqb c 13))
crlf_lines c (d ∷ ds) r = rw (r, eqb-true d 10 (and_right (eqb c 13) (eqb d 10) r))

crlf_ends : (c : ℕ) (cs : List ℕ) → is_cr_lf c cs ≡ true → ends_whole (c ∷ cs) ≡ ends_whole (drop 1 cs)
unfolding ends_whole
crlf_ends c [] r = true_false r (and-false (eqb c 13))
crlf_ends c (d ∷ ds) r =
    subst (λ (b : ℕ). ends_whole (c ∷ b ∷ ds) ≡ ends_whole ds) (sym (eqb-true d 10 (and_right (eqb c 13) (eqb d 10) r))) (feed_ends ds)

-- WHAT STANDS AT THE FRONT, by cases: a carriage return and a line feed, a line feed, another byte
module _ (c : ℕ) (cs : List ℕ) where
  pub by_front : {C : Type 0} → (is_cr_lf c cs ≡ true → C) → (is_cr_lf c cs ≡ false → eqb c 10 ≡ true → C) →
      (is_cr_lf c cs ≡ false → eqb c 10 ≡ false → C) → C
  by_front f g h = by_test (is_cr_lf c cs) f (λ r. by_test (eqb c 10) (g r) (h r))

  pub lines_end : 0 < line_end (c ∷ cs) → lines_of (c ∷ cs) ≡ [] ∷ lines_of (drop (line_end (c ∷ cs)) (c ∷ cs))
  unfolding line_end
  lines_end h =
      by_front (λ r. rw r (crlf_lines c cs r)) (λ r t. rw (r, t) (unfold lines_of in (rw (r, t))))
      (λ r t. absurd (omega (arith, rw (r, t) at h)))

  pub lines_byte : line_end (c ∷ cs) ≡ 0 → lines_of (c ∷ cs) ≡ with_byte c (lines_of cs)
  unfolding line_end lines_of
  lines_byte h =
      by_front (λ r. absurd (omega (arith, rw r at h))) (λ r t. absurd (omega (arith, rw (r, t) at h))) (λ r t. rw (r, t))

  pub ends_end : 0 < line_end (c ∷ cs) → ends_whole (c ∷ cs) ≡ ends_whole (drop (line_end (c ∷ cs)) (c ∷ cs))
  unfolding line_end
  ends_end h =
      by_front (λ r. rw r (crlf_ends c cs r)) (λ r t. rw (r, t, eqb-true c 10 t) (feed_ends cs))
      (λ r t. absurd (omega (arith, rw (r, t) at h)))

pub ends_byte : (c : ℕ) (cs : List ℕ) → line_end (c ∷ cs) ≡ 0 → ends_whole (c ∷ cs) ≡ (ltb 0 (length cs) && ends_whole cs)
unfolding line_end ends_whole
ends_byte c [] h =
    by_test (eqb c 10) (λ t. absurd (omega (arith, rw (t, and-false (eqb c 13)) at h))) (λ t. t)
ends_byte c (d ∷ ds) h = rw (lt-ltb 0 (suc (length ds)) (omega arith))
