-- Which kind of certificate a file is, by its first line (document 01, "A barrier begins with the line 31").
--   begins_other      a file that begins with a barrier's first line is no path
--   cert_barrier      it has a barrier's questions
--   cert_path         any other file has a path's, for without a header either kind's questions refuse it alike
--   path_file         and where those refuse nothing, it is a path
use mathlib.Core.Path.{◌≡◌, refl, sym, ◌∙◌}
use mathlib.Core.Logic.{◌≢◌}
use mathlib.Core.Bool.{true, false, and-false}
use mathlib.Core.List.{List, [], ◌∷◌, ◌++◌}
use Prim.Native.Nat.{ℕ}
use lib.Dec.{ltb, leb}
use lib.ListN.{length, drop}
use Rattle.formats.specs.Limits.{file_most}
use Rattle.counting.proofs.Booleans.{pick_true, pick_false, by_test, true_false}
use Rattle.frames.specs.Frames.{lines_of, is_whole_file, hex_from, Form, path_form, barrier_form, has_header}
use Rattle.frames.specs.Questions.{Question, ask, first_no}
use Rattle.frames.specs.Shape.{header_questions, header_fault}
use Rattle.frames.specs.Writes.{barrier_line, barrier_line_cr_lf, begins_barrier}
use Rattle.frames.proofs.Questions.{first_stop, accepted}
use Rattle.frames.proofs.Begins.{by_first_line, begins_header}
use Rattle.skew.specs.Graph.{Graph, nodes}
use Rattle.files.specs.CertificateFile.{is_path_file, path_fault, path_questions, barrier_fault, barrier_questions, cert_fault}
use Rattle.files.proofs.Asked.{path_asked, barrier_asked}

-- A FILE WITHOUT A HEADER
abbrev no_header : (file : List ℕ) → List Question
no_header f = ask 2 (leb (length f) file_most) ∷ ask 3 (is_whole_file f) ∷ ask 4 false ∷ []

no_header_refused : (f : List ℕ) → first_no (no_header f) ≢ 0
no_header_refused f e = true_false (accepted 4 (no_header f) refl e) refl

no_header_lem : (k : Form) (f : List ℕ) (rest : List Question) → (is_whole_file f ≡ true → has_header k f ≡ false) →
    first_no (header_questions k f ++ rest) ≡ first_no (no_header f)
no_header_lem k f rest h =
    let e : header_fault k f ≡ first_no (no_header f) = by_test (is_whole_file f) (λ w. rw (w, h w)) (λ w. rw w) in
    first_stop (header_questions k f) rest (λ z. no_header_refused f (sym e ∙ z)) ∙ e

-- BY THE FIRST LINE
other_feed : (rest : List ℕ) → is_path_file (barrier_line ++ rest) ≡ false
unfolding lines_of hex_from
other_feed rest = refl

other_both : (rest : List ℕ) → is_path_file (barrier_line_cr_lf ++ rest) ≡ false
unfolding lines_of hex_from
other_both rest = refl

pub begins_other : (f : List ℕ) → begins_barrier f ≡ true → is_path_file f ≡ false
begins_other f b = by_first_line f b (λ (g : List ℕ). is_path_file g ≡ false) other_feed other_both

module _ (g : Graph) (f : List ℕ) where
  pub cert_barrier : begins_barrier f ≡ true → cert_fault g f ≡ barrier_fault g f
  cert_barrier b = pick_false (path_fault g f) (barrier_fault g f) (begins_other f b)

  module _ (b : begins_barrier f ≡ false) where
    barrier_other : barrier_fault g f ≡ first_no (no_header f)
    barrier_other =
        barrier_asked g f ∙ no_header_lem barrier_form f (drop 3 (barrier_questions (nodes g) f)) (λ w. sym (begins_header f w) ∙ b)

    path_other : is_path_file f ≡ false → path_fault g f ≡ first_no (no_header f)
    path_other e =
        path_asked g f ∙
        no_header_lem path_form f (drop 3 (path_questions (length g.arcs) f)) (λ w. rw e (and-false (ltb 0 (length (lines_of f)))))

    pub cert_path : cert_fault g f ≡ path_fault g f
    cert_path =
        by_test (is_path_file f) (λ e. pick_true (path_fault g f) (barrier_fault g f) e)
        (λ e. pick_false (path_fault g f) (barrier_fault g f) e ∙ barrier_other ∙ sym (path_other e))

    pub path_file : path_fault g f ≡ 0 → is_path_file f ≡ true
    path_file z = by_test (is_path_file f) (λ e. e) (λ e. absurd (no_header_refused f (sym (path_other e) ∙ z)))
