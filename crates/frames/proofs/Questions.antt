-- Questions put one after the other (specs/Questions).
--   or_stop, or_go            an earlier refusal stands; where there is none, the later one
--   or_none                   a chain that refuses nothing: no part of it does
--   chain                     document 03's chain of the questions of a list
--   first_stop, first_go      questions before others: their refusal stands; where there is none, the others'
--   chain_first               a chain refuses with the list's first no
--   or_first                  and so do two chains, one after the other
--   first_none                and where nothing is refused, none of them refuses
--   first_both                a last question of two parts refuses as the two parts, one after the other, under its number
--   accepted                  where nothing is refused, the question of each number is answered yes
--   refused                   where a question is answered no and every one before it yes, its number is the refusal
--   refusal_is                the refusal is 0 or one of the numbers: what holds of those holds of it
--   answered_none, answered_refused     a value beside 0, and beside a refusal
--   refusal_some, beside_refusal        a refusal's number is not 0, and so no value stands beside it
--   was_yes, was_no           what the code's `ask` answered of a question, read back where it refused nothing, and where it refused
--   passed_on                 what `?` returns beside a refusal: that refusal
use mathlib.Core.Path.{◌≡◌, refl, ap, sym, ◌∙◌}
use mathlib.Core.Logic.{◌≢◌}
use mathlib.Core.Bool.{Bool, true, false, ◌&&◌}
use mathlib.Core.List.{List, [], ◌∷◌, ◌++◌}
use Prim.Native.Nat.{ℕ, ◌<◌}
use native.Mathlib.Omega.{arith}
use lib.Dec.{eqb, ltb}
use borrow.Author.Tests.{eq-eqb, ne_eqb, eqb-true, eqb-false, ltb-true}
use Rattle.std.specs.Prelude.{Result, Err}
use Rattle.std.specs.Result.{IsErr, IsErrAnd}
use Rattle.std.proofs.lemmas.Result.{err_from_is_err_and}
use Rattle.formats.specs.Refusals.{refusal_number}
use Rattle.formats.specs.declared.refusals.Refusal.{Refusal}
use Rattle.formats.specs.declared.refusals.Refusal.TheVariants as refusal
use Rattle.counting.specs.Tests.{pick}
use Rattle.counting.proofs.Booleans.{and_left, and_right, by_test, true_false}
use Rattle.frames.specs.Frames.{or_else, unless}
use Rattle.frames.specs.Questions.{Question, ask, first_no, numbers_are, are_numbered, answer_to, answers_before, answered}

-- DOCUMENT 03'S CHAIN
pub or_stop : (a b : ℕ) → a ≢ 0 → or_else a b ≡ a
or_stop a b h = rw (ne_eqb _ _ h)

pub or_go : (a b : ℕ) → a ≡ 0 → or_else a b ≡ b
or_go a b h = rw (eq-eqb _ _ h)

pub or_none : (a b : ℕ) → or_else a b ≡ 0 → (a ≡ 0) × (b ≡ 0)
or_none a b h = by_test (eqb a 0) (λ e. (eqb-true a 0 e, rw e at h)) (λ e. let z : a ≡ 0 = rw e at h in absurd (eqb-false a 0 e z))

abbrev pub chain : List Question → ℕ
chain [] = 0
chain (q ∷ []) = unless q.answer q.number
chain (q ∷ r ∷ qs) = or_else (unless q.answer q.number) (chain (r ∷ qs))

-- A LIST OF QUESTIONS
pub first_stop : (qs rs : List Question) → first_no qs ≢ 0 → first_no (qs ++ rs) ≡ first_no qs
first_stop [] rs h = absurd (h refl)
first_stop (q ∷ qs) rs h = by_test q.answer (λ t. rw t (first_stop qs rs (rw t at h))) (λ t. rw t)

none_yes : (q : Question) (qs rs : List Question) → are_numbered (q ∷ qs) ≡ true → first_no (q ∷ rs) ≡ 0 →
    (q.answer ≡ true) × (are_numbered qs ≡ true) × (first_no rs ≡ 0)
none_yes q qs rs p e =
    by_test q.answer (λ t. (t, and_right (ltb 0 q.number) (are_numbered qs) p, rw t at e))
    (λ t.
    let z : q.number ≡ 0 = rw t at e in
    let h : 0 < q.number = ltb-true _ _ (and_left (ltb 0 q.number) (are_numbered qs) p) in
    absurd (omega arith))

pub first_go : (qs rs : List Question) → are_numbered qs ≡ true → first_no qs ≡ 0 → first_no (qs ++ rs) ≡ first_no rs
first_go [] rs p e = refl
first_go (q ∷ qs) rs p e = let r = none_yes q qs qs p e in rw r.0 (first_go qs rs r.1 r.2)

pub chain_first : (qs : List Question) → are_numbered qs ≡ true → chain qs ≡ first_no qs
chain_first [] p = refl
chain_first (q ∷ []) p = refl
chain_first (q ∷ r ∷ qs) p =
    let e = chain_first (r ∷ qs) (and_right (ltb 0 q.number) (are_numbered (r ∷ qs)) p) in
    let h : 0 < q.number = ltb-true _ _ (and_left (ltb 0 q.number) (are_numbered (r ∷ qs)) p) in
    by_test q.answer (λ t. rw t e) (λ t. rw (t, ne_eqb q.number 0 (λ z. omega arith)))

pub or_first : (qs rs : List Question) {a b : ℕ} → are_numbered qs ≡ true → a ≡ first_no qs → b ≡ first_no rs → or_else a b ≡ first_no (qs ++ rs)
or_first qs rs {a} {b} p d e =
    by_test (eqb a 0)
    (λ t. let z = eqb-true a 0 t in or_go a b z ∙ e ∙ sym (first_go qs rs p (sym d ∙ z)))
    (λ t. let h = eqb-false a 0 t in or_stop a b h ∙ d ∙ sym (first_stop qs rs (λ z. h (d ∙ z))))

pub first_none : (qs rs : List Question) → are_numbered qs ≡ true → first_no (qs ++ rs) ≡ 0 → (first_no qs ≡ 0) × (first_no rs ≡ 0)
first_none [] rs p e = (refl, e)
first_none (q ∷ qs) rs p e = let r = none_yes q qs (qs ++ rs) p e in rw r.0 (first_none qs rs r.1 r.2)

pub first_both : (qs : List Question) (n : ℕ) (a b : Bool) → first_no (qs ++ ask n (a && b) ∷ []) ≡ first_no (qs ++ ask n a ∷ ask n b ∷ [])
first_both [] n true b = refl
first_both [] n false b = refl
first_both (q ∷ qs) n a b = ap (λ (m : ℕ). pick q.answer m q.number) (first_both qs n a b)

pub accepted : (n : ℕ) (qs : List Question) → are_numbered qs ≡ true → first_no qs ≡ 0 → answer_to n qs ≡ true
accepted n [] p e = refl
accepted n (q ∷ qs) p e =
    let r = none_yes q qs qs p e in
    by_test (eqb q.number n) (λ t. rw t r.0) (λ t. rw t (accepted n qs r.1 r.2))

pub refused : (n : ℕ) (qs : List Question) → answers_before n qs ≡ true → answer_to n qs ≡ false → first_no qs ≡ n
refused n [] b h = true_false refl h
refused n (q ∷ qs) b h =
    by_test (eqb q.number n)
    (λ t. let z : q.answer ≡ false = rw t at h in rw z (eqb-true _ _ t))
    (λ t.
    let y = rw t at b in
    rw (and_left q.answer (answers_before n qs) y) (refused n qs (and_right q.answer (answers_before n qs) y) (rw t at h)))

pub refusal_is : (p : ℕ → Bool) (qs : List Question) → p 0 ≡ true → numbers_are p qs ≡ true → p (first_no qs) ≡ true
refusal_is p [] z h = z
refusal_is p (q ∷ qs) z h =
    by_test q.answer (λ t. rw t (refusal_is p qs z (and_right (p q.number) (numbers_are p qs) h)))
    (λ t. rw t (and_left (p q.number) (numbers_are p qs) h))

-- BESIDE A NUMBER
pub answered_none : {n : ℕ} (x : ℕ) → n ≡ 0 → answered n x ≡ x
answered_none x e = rw e

pub answered_refused : {n : ℕ} (x : ℕ) → n ≢ 0 → answered n x ≡ 0
answered_refused x h = rw (ne_eqb _ _ h)

-- A REFUSAL has a number
pub refusal_some : (e : Refusal) → refusal_number e ≢ 0
refusal_some refusal.Room q = omega arith
refusal_some refusal.Length q = omega arith
refusal_some refusal.Lines q = omega arith
refusal_some refusal.Header q = omega arith
refusal_some refusal.Numbers q = omega arith
refusal_some refusal.Body q = omega arith
refusal_some refusal.Count q = omega arith
refusal_some refusal.Size q = omega arith
refusal_some refusal.Names q = omega arith
refusal_some refusal.Mates q = omega arith
refusal_some refusal.FitsRise q = omega arith
refusal_some refusal.PairsRise q = omega arith
refusal_some refusal.PairsFit q = omega arith
refusal_some refusal.Shared q = omega arith
refusal_some refusal.Searches q = omega arith
refusal_some refusal.SelfArc q = omega arith
refusal_some refusal.Caller q = omega arith
refusal_some refusal.NotKept q = omega arith
refusal_some refusal.Full q = omega arith

pub beside_refusal : (e : Refusal) (x : ℕ) → answered (refusal_number e) x ≡ 0
beside_refusal e x = answered_refused x (refusal_some e)

-- AS THE CODE ASKS: `ask(z, refusal)?`
pub was_yes : {z : Bool} (n : ℕ) → 0 ≡ unless z n → ltb 0 n ≡ true → z ≡ true
was_yes {z} n e h = by_test z (λ t. t) (λ t. let q : 0 ≡ n = rw t at e in let k = ltb-true 0 n h in absurd (omega arith))

pub was_no : {z : Bool} {n : ℕ} (e : Refusal) → refusal_number e ≡ unless z n → (z ≡ false) × (refusal_number e ≡ n)
was_no {z} e q = by_test z (λ t. absurd (refusal_some e (rw t at q))) (λ t. (t, rw t at q))

pub passed_on : {A : Type 0} {e : Refusal} {r : Result A Refusal} → IsErr r × IsErrAnd r (λ y. y ≡ e) → r ≡ Err e
passed_on {e = e} {r} h = let p = err_from_is_err_and r h.1 in p.1 ∙ ap Err p.2
