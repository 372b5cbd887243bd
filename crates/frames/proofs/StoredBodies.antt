-- What storing the runs of a file gives, where questions 2 to 7 refuse nothing: document 03's pairs and numbers of its body lines.
--   lines_after                     from the second line on: the body lines of the first kind, those of the last, the end frame
--   body_storable                   these lines can be stored
--   body_few                        how many body lines there are at most, by the file's length
--   only_run, only_size             a body of one kind: its run is the body, as long as the end frame says
--   only_pairs, only_numbers        what is stored of it is what document 03 reads
--   only_count                      and as many pairs
--   first_run, first_size, first_pairs       a body of two kinds: the run at the front is the lines of the first kind
--   second_run, second_size, second_pairs    and the run where that one stops is the lines of the second
use mathlib.Core.Path.{◌≡◌, ap, sym, ◌∙◌}
use mathlib.Core.Logic.{◌≢◌}
use mathlib.Core.Bool.{true, false}
use mathlib.Core.List.{List, [], ◌∷◌, ◌++◌, map}
use Prim.Native.Nat.{ℕ, suc, ◌+◌, ◌*◌, ◌-◌, ◌≤◌}
use native.Mathlib.Omega.{arith}
use lib.Dec.{eqb, leb}
use lib.ListN.{length, take, drop, length-append, length-drop, take-append-drop}
use lib.Seq.{take-suc, take-length, length-take-le}
use borrow.Author.Tests.{eqb-true, le-leb}
use Rattle.counting.specs.Tests.{all}
use Rattle.counting.specs.Pairs.{number_of}
use Rattle.counting.specs.declared.Pair.{Pair}
use Rattle.counting.proofs.Booleans.{and_left, and_right, and_both}
use Rattle.counting.proofs.Membership.{all_each, each_all, all_append}
use Rattle.frames.specs.Frames.{lines_of, is_digit, Form, last_line, body_lines, rest_lines, pairs_in, numbers_in}
use Rattle.frames.specs.Lines.{is_plain}
use Rattle.frames.specs.Shape.{first_kind, last_kind, Shaped}
use Rattle.frames.specs.Stores.{has_kind, run_of, past_run, run_at, is_long, Storable, RunPassed}
use Rattle.frames.proofs.LineCounts.{long_few}
use Rattle.frames.proofs.Stores.{numbers_pairs}
use Rattle.frames.proofs.Runs.{other_kind, frames_kind, run_only, run_first, run_second, run_pairs, pairs_first, pairs_second}

plain_long : (n m : ℕ) (l : List ℕ) → n ≤ m → is_plain m l ≡ true → is_long n l ≡ true
plain_long n m l h p =
    let e : length l ≡ m = eqb-true _ _ (and_left (eqb (length l) m) (all is_digit l) p) in
    and_both (leb n (length l)) (all is_digit l) (le-leb n (length l) (omega arith)) (and_right (eqb (length l) m) (all is_digit l) p)

module _ {form : Form} {f : List ℕ} {next count firsts : ℕ} (s : Shaped form f next count firsts) where
  lines_split : lines_of (drop next f) ≡ body_lines f ++ last_line f ∷ []
  lines_split =
      let ls = rest_lines f in
      let n : length ls ≡ suc (length ls - 1) = omega (arith, s.some) in
      sym s.rest ∙ sym (take-length ls) ∙ ap (λ (i : ℕ). take i ls) n ∙ take-suc ls (length ls - 1) [] (omega arith)

  body_split : take firsts (body_lines f) ++ drop firsts (body_lines f) ≡ body_lines f
  body_split = take-append-drop firsts (body_lines f)

  lines_after : lines_of (drop next f) ≡ take firsts (body_lines f) ++ drop firsts (body_lines f) ++ last_line f ∷ []
  lines_after = lines_split ∙ ap (λ (ls : List (List ℕ)). ls ++ last_line f ∷ []) (sym body_split)

  firsts_of : (k : ℕ) → first_kind form ≡ k → all (has_kind k) (take firsts (body_lines f)) ≡ true
  firsts_of k e = rw (← e) (frames_kind (first_kind form) form.body_size (take firsts (body_lines f)) s.first_run)

  lasts_of : (k : ℕ) → last_kind form ≡ k → all (has_kind k) (drop firsts (body_lines f)) ≡ true
  lasts_of k e = rw (← e) (frames_kind (last_kind form) form.body_size (drop firsts (body_lines f)) s.last_run)

  end_not : (k : ℕ) → form.end ≢ k → has_kind k (last_line f) ≡ false
  end_not k n = other_kind k form.end (last_line f) (and_left (has_kind form.end (last_line f)) _ s.end_frame) n

  body_long : 4 ≤ form.body_size → all (is_long 6) (body_lines f) ≡ true
  body_long h =
      each_all (is_long 6) (body_lines f)
      (λ l i. plain_long 6 (2 + form.body_size) l (omega arith) (all_each (is_plain (2 + form.body_size)) (body_lines f) s.plain_body l i))

  pub body_storable : 4 ≤ form.body_size → Storable f next
  unfolding all
  body_storable h =
      let last : is_long 6 (last_line f) ≡ true = plain_long 6 6 (last_line f) (omega arith) s.plain_end in
      record { inside = s.header.high; long = rw lines_split (all_append (is_long 6) (body_lines f) (last_line f ∷ []) (body_long h) (rw last)) }

  pub body_few : 4 ≤ form.body_size → 7 * (count + 1) ≤ length f + 1
  body_few h =
      let n : length (lines_of (drop next f)) ≡ length (body_lines f) + 1 = ap length lines_split ∙ length-append (body_lines f) (last_line f ∷ []) in
      let b = long_few (drop next f) (body_storable h).long in
      let d = length-drop next f in
      omega (arith, s.counts)

  -- ONE KIND
  module _ (k : ℕ) (first : first_kind form ≡ k) (last : last_kind form ≡ k) (ends : form.end ≢ k) where
    only_kinds : all (has_kind k) (body_lines f) ≡ true
    only_kinds = rw body_split at (all_append (has_kind k) (take firsts (body_lines f)) (drop firsts (body_lines f)) (firsts_of k first) (lasts_of k last))

    pub only_run : run_at k f next ≡ body_lines f
    only_run = ap (run_of k) lines_split ∙ run_only k (body_lines f) (last_line f) only_kinds (end_not k ends)

    pub only_size : length (run_at k f next) ≡ count
    only_size = ap length only_run ∙ sym s.counts

    pub only_pairs : pairs_in k (run_at k f next) ≡ pairs_in k (body_lines f)
    only_pairs = ap (pairs_in k) only_run

    pub only_count : length (pairs_in k (body_lines f)) ≡ count
    only_count = ap (λ (xs : List Pair). length xs) (sym only_pairs) ∙ run_pairs k (lines_of (drop next f)) ∙ only_size

    pub only_numbers : 4 ≤ form.body_size → map number_of (pairs_in k (run_at k f next)) ≡ numbers_in (body_lines f)
    only_numbers h = ap (map number_of) only_pairs ∙ numbers_pairs k (body_lines f) only_kinds (body_long h)

  -- TWO KINDS
  module _ (k m : ℕ) (first : first_kind form ≡ k) (last : last_kind form ≡ m) (apart : m ≢ k) (ends_k : form.end ≢ k) (ends_m : form.end ≢ m) where
    pub first_run : run_at k f next ≡ take firsts (body_lines f)
    first_run =
        ap (run_of k) lines_after ∙
        run_first k m apart (take firsts (body_lines f)) (drop firsts (body_lines f)) (firsts_of k first) (lasts_of m last) (last_line f) (end_not k ends_k)

    pub first_size : length (run_at k f next) ≡ firsts
    first_size =
        ap length first_run ∙ length-take-le firsts (body_lines f) (omega (arith, s.counts, s.first_few))

    pub first_pairs : pairs_in k (run_at k f next) ≡ pairs_in k (body_lines f)
    first_pairs =
        ap (pairs_in k) first_run ∙
        pairs_first k m apart (take firsts (body_lines f)) (drop firsts (body_lines f)) (firsts_of k first) (lasts_of m last) ∙
        ap (pairs_in k) body_split

    module _ {n turn : ℕ} (p : RunPassed k f next n turn) where
      pub second_run : run_at m f turn ≡ drop firsts (body_lines f)
      second_run =
          ap (run_of m) (p.rest ∙ ap (past_run k) lines_after) ∙
          run_second k m apart (take firsts (body_lines f)) (drop firsts (body_lines f)) (firsts_of k first) (lasts_of m last) (last_line f)
          (end_not k ends_k) (end_not m ends_m)

      pub second_size : length (run_at m f turn) ≡ count - firsts
      second_size = ap length second_run ∙ length-drop firsts (body_lines f) ∙ ap (λ (c : ℕ). c - firsts) (sym s.counts)

      pub second_pairs : pairs_in m (run_at m f turn) ≡ pairs_in m (body_lines f)
      second_pairs =
          ap (pairs_in m) second_run ∙
          pairs_second k m apart (take firsts (body_lines f)) (drop firsts (body_lines f)) (firsts_of k first) (lasts_of m last) ∙
          ap (pairs_in m) body_split
