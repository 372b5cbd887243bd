-- From what a call owes to what is printed.
--   text_prints, line_prints                   a text at the front of a buffer; a line written there
--   refusal_shows                              a refusal, as it is printed: its line
--   shown                                      it is a right answer, or the line of the refusal
--   graph_prints, stock_prints, budget_prints      the same of each call, where there is room
use mathlib.Core.Path.{◌≡◌, refl, ap, sym, subst, ◌∙◌}
use mathlib.Core.Bool.{Bool, true, false}
use mathlib.Core.List.{List}
use Prim.Native.Nat.{ℕ, ◌+◌, ◌≤◌}
use native.Mathlib.Omega.{arith}
use borrow.Author.Tests.{le-leb, eqb-true, eqb-false, ne_eqb}
use lib.Dec.{eqb}
use lib.ListN.{length, drop, length-append}
use Rattle.std.proofs.Common.{Err}
use Rattle.formats.specs.Limits.{room}
use Rattle.formats.specs.Refusals.{refusal_number}
use Rattle.formats.specs.declared.refusals.Refusal.{Refusal}
use Rattle.io.proofs.Counting.{prefix_len_of_le}
use Rattle.counting.proofs.Booleans.{true_false}
use Rattle.skew.specs.Graph.{has_path, is_wanted, canonical}
use Rattle.frames.specs.Frames.{or_else}
use Rattle.std.specs.Borrow.{MutBor}
use Rattle.counting.specs.SliceVecs.{Begun, Extended}
use Rattle.counting.specs.declared.slice_vec.SliceVec.{SliceVec}
use Rattle.frames.proofs.Writes.{frame4_length}
use Rattle.files.specs.GraphFile.{graph_in, graph_fault}
use Rattle.files.specs.StockFile.{stock_in, stock_fault, plan_and_sheet}
use Rattle.files.specs.CertificateFile.{path_text, barrier_text}
use Rattle.files.specs.Answers.{over}
use Rattle.files.proofs.AnswerLines.{first_written}
use Rattle.frames.proofs.Questions.{refusal_some}
use Rattle.lanes.specs.Entry.{Told, SearchedTold, refusal_line, told, answer_fault, stock_call_fault, Answers, GraphOwes, StockOwes, most_fault, budget_fault, budget_text_of, BudgetOwes}
use Rattle.lanes.specs.Calls.{told_in}
use Rattle.lanes_print.specs.Printed.{RefusedOr, GraphAnswer, GraphText, StockAnswer, StockText, BudgetAnswer, BudgetText, Shows, PrintsOne, Prints}

-- A TEXT AT THE FRONT
pub text_prints : {text before after : List ℕ} {size : ℕ} → after ≡ over text before → size ≡ length text → PrintsOne text before after size
text_prints {text} {before} {after} {size} e s =
    let l : length after ≡ length text + length (drop (length text) before) = rw e (length-append text (drop (length text) before)) in
    record { written = record { bytes = e; told = s }; counted = prefix_len_of_le size after (omega arith) }

pub line_prints : {out : MutBor (List ℕ)} {v w : SliceVec ℕ} {text after : List ℕ} → Begun out v → Extended v text w →
    (out.ghost_name ≡ w.slice.ghost_name → after ≡ w.slice.now) → PrintsOne text out.now after w.len
line_prints b x same = let p = first_written b x same in text_prints p.bytes p.told

-- A CALL'S ANSWER, or the line of its refusal
pub refusal_shows : (e : Refusal) {o w : List ℕ} {s : ℕ} → PrintsOne (refusal_line (refusal_number e)) o w s → Shows (told_in (Err e)) o w s
refusal_shows e p =
    let z = ne_eqb (refusal_number e) 0 (refusal_some e) in
    record { bytes = rw z p.written.bytes; told = rw z (p.written.told ∙ frame4_length 126 (refusal_number e)) }

module _ {n : ℕ} {Right : List ℕ → Type 0} {o v w : List ℕ} {r : Told} {s : ℕ} (refused : eqb n 0 ≡ false → (r ≡ told n 0) × (v ≡ o))
    (answered : n ≡ 0 → (t : List ℕ) × (Right t × Answers t o r v)) (k : Shows r v w s) where
  shown_by : (z : Bool) → eqb n 0 ≡ z → Prints (RefusedOr n Right) o w s
  shown_by false e =
      let q = refused e in
      let m : r.number ≡ n = ap (λ (x : Told). x.number) q.0 in
      let b : w ≡ over (refusal_line n) o = rw (m, e, q.1) at k.bytes in
      let l : s ≡ 5 = rw (m, e) at k.told in
      record {
        text = refusal_line n;
        right = (λ _. refl, λ z. absurd (eqb-false n 0 e z));
        printed = text_prints b (l ∙ sym (frame4_length 126 n));
      }
  shown_by true e =
      let q = answered (eqb-true n 0 e) in
      let m : r.number ≡ 0 = ap (λ (x : Told). x.number) q.1.1.0 in
      let l : r.size ≡ length q.0 = ap (λ (x : Told). x.size) q.1.1.0 in
      let b : w ≡ v = rw m at k.bytes in
      let d : s ≡ r.size = rw m at k.told in
      record {
        text = q.0;
        right = (λ z. absurd (true_false e z), λ _. q.1.0);
        printed = text_prints (b ∙ q.1.1.1) (d ∙ l);
      }

  pub shown : Prints (RefusedOr n Right) o w s
  shown = shown_by (eqb n 0) refl

-- EACH CALL
module _ (f : List ℕ) {o v : List ℕ} {r : Told} where
  graph_answer : (z : Bool) → has_path (graph_in f) ≡ z →
      ((has_path (graph_in f) ≡ false → Answers (barrier_text (canonical (graph_in f))) o r v) ×
      (has_path (graph_in f) ≡ true → (is : List ℕ) × ((is_wanted (graph_in f) is ≡ true) × Answers (path_text is) o r v))) →
      (t : List ℕ) × (GraphAnswer f t × Answers t o r v)
  graph_answer false e g = (barrier_text (canonical (graph_in f)), ((λ _. refl, λ p. absurd (true_false p e)), g.0 e))
  graph_answer true e g =
      let q = g.1 e in (path_text q.0, ((λ p. absurd (true_false e p), λ _. (q.0, (q.1.0, refl))), q.1.1))

module _ (f : List ℕ) {o v w : List ℕ} {r : Told} {s : ℕ} (h : room ≤ length o) where
  pub graph_prints : GraphOwes 2 f o r v → Shows r v w s → Prints (GraphText f) o w s
  graph_prints g k =
      let e : answer_fault 2 f (length o) ≡ graph_fault f = rw (le-leb room (length o) h) in
      subst (λ (n : ℕ). Prints (RefusedOr n (GraphAnswer f)) o w s) e
      (shown g.0 (λ z. graph_answer f (has_path (graph_in f)) refl (g.1 z)) k)

  pub stock_prints : StockOwes 2 f o r v → Shows r v w s → Prints (StockText f) o w s
  stock_prints g k =
      let e : stock_call_fault 2 f (length o) ≡ stock_fault f = rw (le-leb room (length o) h) in
      subst (λ (n : ℕ). Prints (RefusedOr n (StockAnswer f)) o w s) e
      (shown g.0 (λ z. let q = g.1 z in (plan_and_sheet (stock_in f) q.0, ((q.0, (q.1.0, refl)), q.1.1))) k)

pub budget_prints : (b : ℕ) (f : List ℕ) {o v w : List ℕ} {r : SearchedTold} {s : ℕ} → room ≤ length o → BudgetOwes 2 b f o r v → Shows r.told v w s →
    Prints (BudgetText b f) o w s
budget_prints b f {o} {v} {w} {r} {s} h g k =
    let e : budget_fault 2 b f (length o) ≡ or_else (most_fault b) (stock_fault f) = rw (le-leb room (length o) h) in
    subst (λ (n : ℕ). Prints (RefusedOr n (BudgetAnswer b f)) o w s) e
    (shown (λ z. let q = g.0 z in (ap (λ (x : SearchedTold). x.told) q.0, q.1))
    (λ z. let q = g.1 z in (budget_text_of (stock_in f) b q.0, ((q.0, (q.1.0, refl)), (ap (λ (x : SearchedTold). x.told) q.1.1, q.1.2)))) k)
