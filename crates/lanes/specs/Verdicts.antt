-- The check's answer, part by part (document 01, "Questions put to a call").
--   certificate_told r                   a certificate's judgement, as the check gives it
--   verdict_by n holds                   refused with n; where n is 0, whether the certificate holds
--   cert_number n                        a certificate's refusal as the check gives it: 40 added
--   path_verdict, barrier_verdict        the answer to a path, and to a barrier
--   cert_verdict                         to either
use Rattle.std.specs.Prelude.{Bool, Result, Ok, Err, List, ℕ, ◌+◌, eqb}
use Rattle.formats.specs.Refusals.{refusal_number}
use Rattle.formats.specs.declared.refusals.Refusal.{Refusal}
use Rattle.counting.specs.Tests.{pick}
use Rattle.skew.specs.Graph.{Graph, is_wanted, is_barrier}
use Rattle.files.specs.CertificateFile.{path_arcs, path_fault, barrier_classes, barrier_fault, cert_fault, cert_holds}
use Rattle.lanes.specs.Entry.{Verdict, Refused, Yes, No}

abbrev pub certificate_told : Result Bool Refusal → Verdict
certificate_told (Ok holds) = pick holds Yes No
certificate_told (Err e) = Refused (40 + refusal_number e)

abbrev pub verdict_by : (number : ℕ) → (holds : Bool) → Verdict
verdict_by n z = pick (eqb n 0) (pick z Yes No) (Refused n)

abbrev pub cert_number : ℕ → ℕ
cert_number n = pick (eqb n 0) 0 (40 + n)

abbrev pub path_verdict : Graph → (file : List ℕ) → Verdict
path_verdict g f = verdict_by (cert_number (path_fault g f)) (is_wanted g (path_arcs f))

abbrev pub barrier_verdict : Graph → (file : List ℕ) → Verdict
barrier_verdict g f = verdict_by (cert_number (barrier_fault g f)) (is_barrier g (barrier_classes f))

abbrev pub cert_verdict : Graph → (file : List ℕ) → Verdict
cert_verdict g f = verdict_by (cert_number (cert_fault g f)) (cert_holds g f)
