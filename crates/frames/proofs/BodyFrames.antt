-- Questions 6 and 7, line by line from the front: the body frames in the order of their kinds, then the end frame.
--   frame_kind, frame_length, frame_size                          a frame of a kind, as a line and as a part of the file
--   first_kind_lem, last_kind_lem                                 the kinds of a layout's list
--   fit_bodies                                                    one kind of body line is that kind twice
--   fit_runs                                                      lines that fit are a run of the first kind, then one of the second
--   told number count firsts                                      an answer: the number, and the counts beside it
--   second y                                                      the second kind, or the first where there is no second
--   fits y kind line, kind_at y kind line                         a body frame of a kind; the kind it is read as: the one read now, else the second
--   firsts_past y kind firsts                                     how many lines of the first kind there are past one of a kind
--   body_from y kind count firsts lines                           document 03's answer of the lines left: the kind read now, the lines passed, those of the first kind
--   whole_body y g, body_answer                                   that of all lines, and so what the reader is to answer
--   BodyLeft y g at count firsts kind                             what is left at a place answers as the whole
--   left_next, left_turn                                          so past a line that fits, and past the first one of the second kind
--   left_first, left_second                                       and whether that one is of the first kind
--   left_fails, left_end, left_refused, left_none                 the answers: at a line that does not fit, at the last line, at no line
--   end_number                                                    the number in the last line
use mathlib.Core.Path.{◌≡◌, refl, ap, sym, ◌∙◌}
use mathlib.Core.Logic.{◌≢◌, ◌⊎◌, inr, ⊎_elim}
use mathlib.Core.Bool.{Bool, true, false, ◌&&◌, and-false, and-true}
use mathlib.Core.List.{List, [], ◌∷◌}
use Prim.Native.Nat.{ℕ, suc, ◌+◌, ◌-◌, ◌≤◌, ◌<◌}
use native.Mathlib.Omega.{arith}
use native.Mathlib.Nat.{add-zero, zero-add}
use lib.Dec.{eqb}
use lib.ListN.{length, get_or, take, drop, length-drop, drop_of_length-le}
use borrow.Author.Tests.{eq-eqb, ne_eqb, eqb-true, lt-ltb}
use Rattle.std.specs.Prelude.{Option, Some, None, unwrap_or}
use Rattle.formats.specs.Kinds.{kind_number}
use Rattle.formats.specs.Refusals.{refusal_number}
use Rattle.formats.specs.declared.refusals.Refusal.{Refusal}
use Rattle.formats.specs.declared.kinds.Kind.{Kind}
use Rattle.counting.specs.Tests.{pick, all}
use Rattle.counting.proofs.Booleans.{and_left, and_right, and_both, pick_true, pick_false, by_test, true_false}
use Rattle.frames.specs.Frames.{lines_of, hex_at, kind_of, is_frame_of, later_fit, bodies_fit, pairs_in}
use Rattle.frames.specs.Questions.{ask, first_no, answered}
use Rattle.frames.specs.Lines.{part, LineAt}
use Rattle.frames.specs.Shape.{form_of, bodies_of, first_kind, last_of, before_last, lines_fit, body_fault, end_fault, BodyAnswer}
use Rattle.frames.specs.declared.layout.Layout.{Layout}
use Rattle.frames.proofs.LinePlaces.{part_length, lines_here, lines_some, last_here}
use Rattle.frames.proofs.HexNumbers.{hex_part}
use Rattle.frames.proofs.Questions.{beside_refusal}
use Rattle.frames.proofs.Runs.{frames_kind, pairs_other}

-- A FRAME of a kind, with so many digits after it
module _ (k n : ℕ) (l : List ℕ) (h : is_frame_of k n l ≡ true) where
  pub frame_kind : kind_of l ≡ k
  frame_kind = eqb-true _ _ (and_left (eqb (kind_of l) k) (eqb (length l) (2 + n)) h)

  pub frame_length : length l ≡ 2 + n
  frame_length = eqb-true _ _ (and_right (eqb (kind_of l) k) (eqb (length l) (2 + n)) h)

module _ (at end kind size : ℕ) (f : List ℕ) (h : end ≤ length f) where
  pub frame_size : is_frame_of kind size (part at end f) ≡ true → end - at ≡ 2 + size
  frame_size e = sym (part_length at end f h) ∙ frame_length kind size (part at end f) e

-- THE LIST OF KINDS: one kind is that kind twice
pub first_kind_lem : (a : Kind) (b : Option Kind) → get_or (bodies_of a b) 0 0 ≡ kind_number a
first_kind_lem a None = refl
first_kind_lem a (Some b) = refl

pub last_kind_lem : (a : Kind) (b : Option Kind) → get_or (bodies_of a b) (length (bodies_of a b) - 1) 0 ≡ kind_number (unwrap_or b a)
last_kind_lem a None = refl
last_kind_lem a (Some b) = refl

module _ (k n : ℕ) where
  fit_one : (ls : List (List ℕ)) → (bodies_fit (k ∷ []) n ls ≡ all (is_frame_of k n) ls) × (bodies_fit (k ∷ k ∷ []) n ls ≡ all (is_frame_of k n) ls)
  unfolding bodies_fit later_fit all
  fit_one [] = (refl, refl)
  fit_one (l ∷ ls) = by_test (is_frame_of k n l) (λ t. rw t (fit_one ls)) (λ t. rw t (refl, refl))

pub fit_bodies : (a : Kind) (b : Option Kind) (n : ℕ) (ls : List (List ℕ)) →
    bodies_fit (bodies_of a b) n ls ≡ bodies_fit (kind_number a ∷ kind_number (unwrap_or b a) ∷ []) n ls
fit_bodies a None n ls = let r = fit_one (kind_number a) n ls in r.0 ∙ sym r.1
fit_bodies a (Some b) n ls = refl

-- A RUN of the first kind, as long as that kind is counted, then one of the second
pub fit_runs : (k m n : ℕ) (ls : List (List ℕ)) → bodies_fit (k ∷ m ∷ []) n ls ≡ true →
    (all (is_frame_of k n) (take (length (pairs_in k ls)) ls) ≡ true) × (all (is_frame_of m n) (drop (length (pairs_in k ls)) ls) ≡ true)
unfolding bodies_fit later_fit all pairs_in
fit_runs k m n [] h = (refl, refl)
fit_runs k m n (l ∷ ls) h =
    by_test (is_frame_of k n l)
    (λ t. let r = fit_runs k m n ls (rw t at h) in rw (eq-eqb _ _ (frame_kind k n l t)) (and_both (is_frame_of k n l) _ t r.0, r.1))
    (λ t.
    let g : all (is_frame_of m n) (l ∷ ls) ≡ true = rw t at h in
    let d : m ≢ k = λ q. true_false (and_left (is_frame_of m n l) (all (is_frame_of m n) ls) g) (rw q t) in
    rw (pairs_other k m (l ∷ ls) (frames_kind m n (l ∷ ls) g) d) (refl, g))

-- THE ANSWER FROM A LINE ON
abbrev pub told : (number count firsts : ℕ) → ℕ × ℕ × ℕ
told n c m = (n, answered n c, answered n m)

module _ (y : Layout) where
  -- the second kind, and the first where there is none
  abbrev pub second : Kind
  second = unwrap_or y.second y.first

  abbrev pub fits : Kind → List ℕ → Bool
  fits j l = is_frame_of (kind_number j) 4 l

  abbrev pub kind_at : Kind → List ℕ → Kind
  kind_at j l = pick (fits j l) j second

  abbrev pub firsts_past : Kind → (firsts : ℕ) → ℕ
  firsts_past j m = pick (eqb (kind_number j) (kind_number y.first)) (m + 1) m

  -- document 03's, of the lines left
  abbrev pub body_from : Kind → (count firsts : ℕ) → List (List ℕ) → ℕ × ℕ × ℕ
  body_from j c m ls =
      let n = c + length (before_last ls) in
      told
      (first_no (ask 6 (lines_fit (kind_number j ∷ kind_number second ∷ []) 4 (kind_number y.end) ls) ∷ ask 7 (eqb (hex_at 2 4 (last_of ls)) n) ∷ []))
      n (m + length (pairs_in (kind_number y.first) (before_last ls)))

  -- past a line that others follow: the same of those, if it fits
  abbrev body_past : Kind → (count firsts : ℕ) → (line : List ℕ) → List (List ℕ) → ℕ × ℕ × ℕ
  body_past j c m l ls = let i = kind_at j l in pick (fits i l) (body_from i (c + 1) (firsts_past i m) ls) (told 6 0 0)

  fit_cons : (j : Kind) (l : List ℕ) (ls : List (List ℕ)) → bodies_fit (kind_number j ∷ kind_number second ∷ []) 4 (l ∷ ls) ≡
      (fits (kind_at j l) l && bodies_fit (kind_number (kind_at j l) ∷ kind_number second ∷ []) 4 ls)
  unfolding bodies_fit later_fit all
  fit_cons j l ls = by_test (fits j l) (λ t. rw (t, t)) (λ t. rw (t, (fit_one (kind_number second) 4 ls).1))

  pairs_cons : (i : Kind) (m : ℕ) (l : List ℕ) (ls : List (List ℕ)) → kind_of l ≡ kind_number i →
      m + length (pairs_in (kind_number y.first) (l ∷ ls)) ≡ firsts_past i m + length (pairs_in (kind_number y.first) ls)
  unfolding pairs_in
  pairs_cons i m l ls e = rw e (by_test (eqb (kind_number i) (kind_number y.first)) (λ u. rw u (omega arith)) (λ u. rw u))

  from_cons : (j : Kind) (c m : ℕ) (l : List ℕ) (ls : List (List ℕ)) → 0 < length ls → body_from j c m (l ∷ ls) ≡ body_past j c m l ls
  from_cons j c m l ls h =
      let bs = before_last ls in
      let p : length (l ∷ ls) - 1 ≡ suc (length ls - 1) = omega arith in
      let some = lt-ltb 0 (length (l ∷ ls)) (omega arith) in
      let n : c + length (l ∷ bs) ≡ c + 1 + length bs = omega arith in
      by_test (fits (kind_at j l) l)
      (λ t. rw (p, some, lt-ltb 0 (length ls) h, fit_cons j l bs, t, n, pairs_cons (kind_at j l) m l bs (frame_kind _ _ l t)))
      (λ t. rw (p, some, fit_cons j l bs, t, and-false (is_frame_of (kind_number y.end) 4 (last_of ls))))

  abbrev pub whole_body : (g : List ℕ) → ℕ × ℕ × ℕ
  whole_body g = body_from y.first 0 0 (lines_of g)

  whole_is : (g : List ℕ) → whole_body g ≡
      told (body_fault (form_of y) (lines_of g)) (length (before_last (lines_of g))) (length (pairs_in (first_kind (form_of y)) (before_last (lines_of g))))
  whole_is g = rw (first_kind_lem y.first y.second, fit_bodies y.first y.second 4 (before_last (lines_of g)), zero-add, zero-add)

  pub body_answer : {g : List ℕ} (number count firsts : ℕ) → whole_body g ≡ told number count firsts →
      BodyAnswer (form_of y) g number (answered number count) (answered number firsts)
  body_answer {g} number count firsts e =
      let w = sym e ∙ whole_is g in
      let s = ap (λ (a : ℕ × ℕ × ℕ). a.0) w in
      let bs = before_last (lines_of g) in
      record {
        says = s;
        counts = ap (λ (a : ℕ × ℕ × ℕ). a.1) w ∙ ap (λ (n : ℕ). answered n (length bs)) (sym s);
        first_counts = ap (λ (a : ℕ × ℕ × ℕ). a.2) w ∙ ap (λ (n : ℕ). answered n (length (pairs_in (first_kind (form_of y)) bs))) (sym s);
      }

-- WHAT IS LEFT at a line: the kind that is read now, the lines counted so far, and those of the first kind
pub record BodyLeft (y : Layout) (g : List ℕ) (at count firsts : ℕ) (kind : Kind) : Type 0 where
  pub high : at ≤ length g
  pub few : count ≤ at
  pub first_few : firsts ≤ count
  pub of_two : (kind ≡ y.first) ⊎ (kind ≡ second y)
  pub one_first : kind_number kind ≡ kind_number y.first → kind ≡ y.first
  pub answers : whole_body y g ≡ body_from y kind count firsts (lines_of (drop at g))

module _ {y : Layout} {g : List ℕ} {at count firsts : ℕ} {kind : Kind} (r : BodyLeft y g at count firsts kind) where
  pub left_none : length g ≤ at → BodyAnswer (form_of y) g 6 0 0
  unfolding lines_of
  left_none h = body_answer y 6 0 0 (r.answers ∙ rw (drop_of_length-le g h))

  module _ {end next : ℕ} (h : LineAt g at end next) where
    pub left_end : {number : ℕ} → next ≡ length g → number ≡ end_fault (kind_number y.end) count (part at end g) →
        BodyAnswer (form_of y) g number (answered number count) (answered number firsts)
    unfolding bodies_fit pairs_in
    left_end {number} o e =
        body_answer y number count firsts
        (r.answers ∙ rw (last_here h o, and-true (is_frame_of (kind_number y.end) 4 (part at end g)), add-zero count, add-zero firsts, e))

    pub left_refused : (e : Refusal) → next ≡ length g → refusal_number e ≡ end_fault (kind_number y.end) count (part at end g) →
        BodyAnswer (form_of y) g (refusal_number e) 0 0
    left_refused e o q = rw (beside_refusal e count, beside_refusal e firsts) at (left_end o q)

    module _ (some : next < length g) where
      left_cons : whole_body y g ≡ body_past y kind count firsts (part at end g) (lines_of (drop next g))
      left_cons =
          r.answers ∙ ap (body_from y kind count firsts) (lines_here h) ∙
          from_cons y kind count firsts (part at end g) (lines_of (drop next g)) (lines_some (drop next g) (simp length-drop (omega arith)))

      left_past : {j : Kind} → j ≡ kind_at y kind (part at end g) → fits y j (part at end g) ≡ true → (j ≡ y.first) ⊎ (j ≡ second y) →
          (kind_number j ≡ kind_number y.first → j ≡ y.first) → BodyLeft y g next (count + 1) (firsts_past y j firsts) j
      left_past {j} q t two one =
          let u : firsts_past y j firsts ≤ count + 1 =
          by_test (eqb (kind_number j) (kind_number y.first)) (λ t. rw t (omega arith)) (λ t. rw t (omega arith)) in
          record { high = omega arith; few = omega arith; first_few = u; of_two = two; one_first = one; answers = left_cons ∙ rw (← q, t) }

      pub left_next : fits y kind (part at end g) ≡ true → BodyLeft y g next (count + 1) (firsts_past y kind firsts) kind
      left_next t = left_past (sym (pick_true kind (second y) t)) t r.of_two r.one_first

      -- a line of the second kind, where one of the kind read so far would do: the kinds differ
      pub left_turn : fits y kind (part at end g) ≡ false → fits y (second y) (part at end g) ≡ true →
          BodyLeft y g next (count + 1) (firsts_past y (second y) firsts) (second y)
      left_turn t u = left_past (sym (pick_false kind (second y) t)) u (inr refl) (λ q. true_false (other q) t)
        where
          other : kind_number (second y) ≡ kind_number y.first → fits y kind (part at end g) ≡ true
          other q =
              ⊎_elim (λ (f : kind ≡ y.first). rw (f, ← q) u) (λ (f : kind ≡ second y). rw f u) r.of_two

      pub left_fails : fits y kind (part at end g) ≡ false → fits y (second y) (part at end g) ≡ false → BodyAnswer (form_of y) g 6 0 0
      left_fails t u = body_answer y 6 0 0 (left_cons ∙ rw (t, u))

-- whether it is one more of the first kind
module _ {y : Layout} {g : List ℕ} {at count : ℕ} {kind : Kind} (firsts : ℕ) (r : BodyLeft y g at count (firsts_past y kind firsts) kind) where
  pub left_first : kind ≡ y.first → BodyLeft y g at count (firsts + 1) kind
  left_first e = rw (eq-eqb _ _ (ap kind_number e)) at r

  pub left_second : kind ≢ y.first → BodyLeft y g at count firsts kind
  left_second n = rw (ne_eqb _ _ (λ q. n (r.one_first q))) at r

-- THE LAST LINE alone: its number
pub end_number : (at end kind r : ℕ) (g : List ℕ) → end ≤ length g → is_frame_of kind 4 (part at end g) ≡ true → r ≡ hex_at (at + 2) 4 g → hex_at 2 4 (part at end g) ≡ r
end_number at end kind r g h e is = hex_part 2 4 at end g (omega (arith, frame_size at end kind 4 g h e)) ∙ sym is
