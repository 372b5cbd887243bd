-- Questions put one after the other; the first answered no ends the reading, and its number is the refusal (document
-- 01, "Questions put to a call").
--   Question, ask n z         the question with the number n, answered yes where z is true
--   first_no qs               the number of the first answered no, 0 where there is none
--   numbers_are p qs          p holds of every question's number
--   are_numbered qs           no question has the number 0
--   answer_to n qs            whether the question with the number n is answered yes
--   answers_before n qs       whether every question before that one is
--   answered n x              x beside the number n where that is no refusal, 0 beside a refusal
use Rattle.std.specs.Prelude.{Bool, true, ◌&&◌, List, [], ◌∷◌, ℕ, eqb, ltb}
use Rattle.counting.specs.Tests.{pick}

pub record Question : Type 0 where
  pub number : ℕ
  pub answer : Bool

abbrev pub ask : ℕ → Bool → Question
ask n z = record { number = n; answer = z }

abbrev pub first_no : List Question → ℕ
first_no [] = 0
first_no (q ∷ qs) = pick q.answer (first_no qs) q.number

abbrev pub numbers_are : (ℕ → Bool) → List Question → Bool
numbers_are p [] = true
numbers_are p (q ∷ qs) = p q.number && numbers_are p qs

abbrev pub are_numbered : List Question → Bool
are_numbered qs = numbers_are (ltb 0) qs

abbrev pub answer_to : (number : ℕ) → List Question → Bool
answer_to n [] = true
answer_to n (q ∷ qs) = pick (eqb q.number n) q.answer (answer_to n qs)

abbrev pub answers_before : (number : ℕ) → List Question → Bool
answers_before n [] = true
answers_before n (q ∷ qs) = pick (eqb q.number n) true (q.answer && answers_before n qs)

abbrev pub answered : (number value : ℕ) → ℕ
answered n x = pick (eqb n 0) x 0
