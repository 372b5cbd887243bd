-- The check's answer.
--   refused, judged                               a certificate refused, and one past the questions
--   barrier_verdict_lem, path_verdict_lem         the answer by the first line is the certificate's
--   ok_through, verdict_told                      whose question is answered no, named beside it: what is accepted is the same, and so is the answer
--   check_refused, check_judged                   the call: a graph refused, and one past the questions
use mathlib.Core.Path.{◌≡◌, ap, sym, ◌∙◌}
use mathlib.Core.Logic.{◌≢◌}
use mathlib.Core.Bool.{Bool, true, false}
use mathlib.Core.List.{List}
use Prim.Native.Nat.{ℕ, ◌+◌}
use native.Mathlib.Omega.{arith}
use lib.Dec.{eqb}
use borrow.Author.Tests.{ne_eqb, eqb-true, eqb-false}
use Rattle.std.specs.Prelude.{Result, Ok, Err, MatchResult}
use Rattle.std.specs.Result.{IsErr, IsErrAnd}
use Rattle.std.proofs.lemmas.Result.{err_from_is_err_and}
use Rattle.formats.specs.Refusals.{refusal_number}
use Rattle.formats.specs.declared.refusals.Refusal.{Refusal}
use Rattle.counting.proofs.Booleans.{pick_true, pick_false, by_test}
use Rattle.frames.specs.Writes.{begins_barrier}
use Rattle.frames.proofs.Questions.{or_stop, or_go}
use Rattle.skew.specs.Graph.{Graph, is_wanted, is_barrier}
use Rattle.files.specs.GraphFile.{graph_in, graph_fault}
use Rattle.files.specs.CertificateFile.{path_arcs, path_fault, barrier_classes, cert_fault, cert_holds}
use Rattle.frames.proofs.Questions.{refusal_some, passed_on}
use Rattle.files.proofs.FirstLines.{begins_other, cert_barrier, cert_path, path_file}
use Rattle.lanes.specs.Entry.{Verdict, Refused, verdict_of, check_fault, check_post}
use Rattle.lanes.specs.declared.CheckRefusal.{CheckRefusal}
use Rattle.lanes.specs.declared.CheckRefusal.TheVariants.{Certificate}
use Rattle.lanes.specs.Verdicts.{certificate_told, verdict_by, cert_number, path_verdict, barrier_verdict, cert_verdict}

-- READ
verdict_refused : (n : ℕ) (z : Bool) → n ≢ 0 → Refused (40 + n) ≡ verdict_by (cert_number n) z
verdict_refused n z h = rw (ne_eqb n 0 h, ne_eqb (40 + n) 0 (λ q. omega arith))

pub refused : (r : Result Bool Refusal) (e : Refusal) {n : ℕ} (z : Bool) → IsErr r × IsErrAnd r (λ d. d ≡ e) → refusal_number e ≡ n → certificate_told r ≡ verdict_by (cert_number n) z
refused r e {n} z q says = rw (passed_on q, says) (verdict_refused n z (λ y. refusal_some e (says ∙ y)))

pub judged : {n : ℕ} {holds z : Bool} → 0 ≡ n → holds ≡ z → certificate_told (Ok holds) ≡ verdict_by (cert_number n) z
judged says is = rw (← says, is)

-- EITHER KIND
module _ (g : Graph) (f : List ℕ) where
  pub barrier_verdict_lem : begins_barrier f ≡ true → barrier_verdict g f ≡ cert_verdict g f
  barrier_verdict_lem b =
      ap (λ (n : ℕ). verdict_by (cert_number n) (is_barrier g (barrier_classes f))) (sym (cert_barrier g f b)) ∙
      ap (λ (z : Bool). verdict_by (cert_number (cert_fault g f)) z) (sym (pick_false (is_wanted g (path_arcs f)) (is_barrier g (barrier_classes f)) (begins_other f b)))

  module _ (b : begins_barrier f ≡ false) where
    same_verdict : (n : ℕ) → (n ≡ 0 → is_wanted g (path_arcs f) ≡ cert_holds g f) → verdict_by (cert_number n) (is_wanted g (path_arcs f)) ≡ verdict_by (cert_number n) (cert_holds g f)
    same_verdict n h =
        by_test (eqb n 0) (λ t. ap (verdict_by (cert_number n)) (h (eqb-true n 0 t)))
        (λ t. sym (verdict_refused n (is_wanted g (path_arcs f)) (eqb-false n 0 t)) ∙ verdict_refused n (cert_holds g f) (eqb-false n 0 t))

    pub path_verdict_lem : path_verdict g f ≡ cert_verdict g f
    path_verdict_lem =
        same_verdict (path_fault g f) (λ z. sym (pick_true (is_wanted g (path_arcs f)) (is_barrier g (barrier_classes f)) (path_file g f b z))) ∙
        ap (λ (n : ℕ). verdict_by (cert_number n) (cert_holds g f)) (sym (cert_path g f b))

-- REFUSALS NAMED
pub ok_through : {A E D : Type 0} (r : Result A E) (q : Result A D) {x : A} (P : E → D → Type 0) → MatchResult r (λ y. q ≡ Ok y) (λ e. IsErrAnd q (P e)) → q ≡ Ok x → r ≡ Ok x
ok_through (Ok y) q P h w = cc
ok_through (Err e) q P h w = let p = err_from_is_err_and q h in absurd cc

pub verdict_told : (r : Result Bool Refusal) (q : Result Bool CheckRefusal) → MatchResult r (λ y. q ≡ Ok y) (λ e. IsErrAnd q (λ d. d ≡ Certificate e)) →
    verdict_of q ≡ certificate_told r
verdict_told (Ok y) q h = rw h
verdict_told (Err e) q h = let p = err_from_is_err_and q h in rw (p.1, p.2)

-- THE CALL
module _ (f c : List ℕ) where
  pub check_refused : {n : ℕ} → n ≡ graph_fault f → n ≢ 0 → Refused n ≡ check_post f c
  check_refused {n} q h =
      let e : check_fault f c ≡ n = or_stop (graph_fault f) _ (λ z. h (q ∙ z)) ∙ sym q in
      sym (ap (λ (m : ℕ). verdict_by m (cert_holds (graph_in f) c)) e ∙ rw (ne_eqb n 0 h))

  pub check_judged : {g : Graph} {v : Verdict} → graph_fault f ≡ 0 → g ≡ graph_in f → v ≡ cert_verdict g c → v ≡ check_post f c
  check_judged none is e =
      e ∙ ap (λ (g : Graph). cert_verdict g c) is ∙ ap (λ (m : ℕ). verdict_by m (cert_holds (graph_in f) c)) (sym (or_go (graph_fault f) _ none))
