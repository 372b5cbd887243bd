-- The questions of a plan file, one after the other, and of a plan as it is written.
--   plan_refused                         what is answered to a plan refused before anything is stored
--   plan_shape_fault, plan_seven         questions 2 to 7 refuse; question 7 does, of the header's number
--   plan_shape_lem                       what is answered where 2 to 7 refuse
--   plan_long                            the header's number can be read
--   plan_room, plan_holds                its pairs can be stored, and asked
--   plan_read, plan_nine                 what is answered then, and where a later question refuses
--   plan_held                            where nothing is refused, the slice holds the file's pairs
--   plan_few                             and there are at most 63
--   plan_accepted                        a pairing written as a plan is refused nothing, and is the pairs that the file says
use mathlib.Core.Path.{◌≡◌, refl, ap, subst, sym, ◌∙◌}
use mathlib.Core.Logic.{◌≢◌}
use mathlib.Core.Bool.{true}
use mathlib.Core.List.{List, [], ◌∷◌, ◌++◌, map}
use Prim.Native.Nat.{ℕ, ◌*◌, ◌≤◌, ◌<◌}
use native.Mathlib.Omega.{arith}
use lib.Dec.{eqb, leb, ltb}
use borrow.Author.Tests.{eq-eqb, eqb-true, le-leb, lt-ltb, ltb-true}
use lib.ListN.{length, take, length-append, length-map}
use Rattle.formats.specs.Kinds.{pair_kind}
use Rattle.formats.specs.Limits.{cameras_most, file_most, pairs_most, plan_pairs_most}
use Rattle.formats.specs.Refusals.{refusal_number}
use Rattle.formats.specs.declared.refusals.Refusal.{Refusal}
use Rattle.counting.specs.Lists.{In}
use Rattle.counting.specs.Pairs.{pair_named}
use Rattle.counting.specs.declared.Pair.{Pair}
use Rattle.counting.proofs.Booleans.{and_left, and_two}
use Rattle.counting.proofs.Membership.{all_each, each_all}
use Rattle.frames.specs.Frames.{unless, is_whole_file, lines_of, hex_from, hex_at, plan_form, rest_lines, body_lines, has_header, bodies_fit, has_body, count_agrees, pairs_in, hex_bytes}
use Rattle.frames.specs.Questions.{Question, ask, first_no, answered}
use Rattle.frames.specs.Numbers.{NumberAt}
use Rattle.frames.specs.Shape.{shape_questions, Shaped, ShapeAnswer}
use Rattle.frames.specs.declared.layout.TheConstants.{PLAN}
use Rattle.frames.specs.Stores.{run_at, Storable, StoredFirst, Stored}
use Rattle.frames.proofs.Questions.{first_stop, first_go, first_none, first_both, accepted, answered_none, refusal_some, beside_refusal, was_yes}
use Rattle.frames.proofs.HexNumbers.{hex_small}
use Rattle.frames.proofs.HeaderFrames.{first_number}
use Rattle.frames.proofs.ShapeFaults.{shape_asked, answer_shaped}
use Rattle.frames.proofs.Stores.{stored_pairs}
use Rattle.frames.proofs.StoredBodies.{body_storable, only_size, only_pairs, only_count}
use Rattle.frames.proofs.Writes.{two_value, four_value}
use Rattle.matching.specs.Stock.{Stock, has_pair}
use Rattle.matching.specs.Promise.{WellFormedStock}
use Rattle.matching.proofs.Pairs.{in_has_pair}
use Rattle.matching.proofs.Matchings.{list_count}
use Rattle.matching.proofs.Promises.{well_formed_fits, well_formed_lit}
use Rattle.files.specs.StockFile.{plan_text}
use Rattle.files.specs.PlanFile.{plan_pairs, pairs_told, plan_shape, pairing_questions, plan_fault}
use Rattle.files.specs.Readers.{PlanHeld, PlanRead}
use Rattle.files.proofs.Tables.{stored_all, all_stored, none_stored, back_stored}
use Rattle.files.proofs.AnswerLines.{plan_size}
use Rattle.files.proofs.AnswerEnds.{plan_plain}
use Rattle.files.proofs.PlanBytes.{pair_line, end_line, plan_lines_lem, plan_first, plan_body, plan_last, pairs_read_lem}

-- QUESTION 7 is of CCCC, as for every file, and then of PP
abbrev told_question : (file : List ℕ) → List Question
told_question f = ask 7 (eqb (pairs_told f) (length (body_lines f))) ∷ []

told_last : (f : List ℕ) → first_no (plan_shape f) ≡ first_no (shape_questions plan_form f true ++ told_question f)
told_last f =
    first_both (ask 2 (leb (length f) file_most) ∷ ask 3 (is_whole_file f) ∷ ask 4 (has_header plan_form f) ∷ ask 6 (has_body plan_form f) ∷ []) 7 (count_agrees f)
    (eqb (pairs_told f) (length (body_lines f)))

-- THE ANSWERS
pub plan_refused : {cameras : ℕ} {fits : List Pair} {f : List ℕ} {us : List Pair} (e : Refusal) → refusal_number e ≡ first_no (plan_shape f) →
    PlanRead cameras fits f us us (refusal_number e) 0
plan_refused {cameras} {fits} {f} {us} e q =
    let d : first_no (plan_shape f) ≢ 0 = λ z. refusal_some e (q ∙ z) in
    record {
      says = q ∙ sym (first_stop (plan_shape f) (pairing_questions cameras fits (plan_pairs f)) d);
      counts = sym (beside_refusal e (length (plan_pairs f)));
      stores = none_stored (λ (zs : List Pair). zs) (plan_shape f) (plan_pairs f) us refl d;
    }

pub plan_shape_fault : {f : List ℕ} {next count : ℕ} (e : Refusal) → ShapeAnswer plan_form f (refusal_number e) next count → refusal_number e ≡ first_no (plan_shape f)
plan_shape_fault {f} e a =
    let q = a.says ∙ shape_asked plan_form f true in
    q ∙ sym (told_last f ∙ first_stop (shape_questions plan_form f true) (told_question f) (λ z. refusal_some e (q ∙ z)))

pub plan_shape_lem : {cameras : ℕ} {fits : List Pair} {us : List Pair} {f : List ℕ} {next count : ℕ} (e : Refusal) → ShapeAnswer plan_form f (refusal_number e) next count →
    PlanRead cameras fits f us us (refusal_number e) 0
plan_shape_lem e a = plan_refused e (plan_shape_fault e a)

module _ {f : List ℕ} {next count : ℕ} (a : ShapeAnswer plan_form f 0 next count) where
  plan_shaped : Shaped plan_form f next count (length (plan_pairs f))
  plan_shaped = answer_shaped PLAN a refl

  pub plan_long : 4 ≤ length f
  plan_long = let l = plan_shaped.header in omega (arith, l.past, l.high)

  module _ {c : ℕ} (x : NumberAt f 2 2 c) where
    told_is : pairs_told f ≡ c
    told_is = first_number f 4 next plan_shaped.header 2 2 (omega arith) ∙ sym x.is

    seven : first_no (plan_shape f) ≡ unless (eqb c count) 7
    seven =
        rw (← told_is, plan_shaped.counts)
        (told_last f ∙ first_go (shape_questions plan_form f true) (told_question f) refl (sym (a.says ∙ shape_asked plan_form f true)))

    pub plan_seven : (e : Refusal) → refusal_number e ≡ unless (eqb c count) 7 → refusal_number e ≡ first_no (plan_shape f)
    plan_seven e q = q ∙ sym seven

    module _ (fit : 0 ≡ unless (eqb c count) 7) where
      -- two digits tell at most 255
      few : count ≤ plan_pairs_most
      few =
          let h = hex_small 2 2 _ plan_shaped.header_digits in
          let same = eqb-true c count (was_yes 7 fit refl) in
          omega (arith, told_is)

      pub plan_room : (us : List Pair) → plan_pairs_most ≤ length us → Storable f next × (length (run_at pair_kind f next) ≤ length us)
      plan_room us r =
          let n = only_size plan_shaped pair_kind refl refl (λ q. omega arith) in (body_storable plan_shaped (omega arith), omega (arith, n, few))

      module _ {us us' : List Pair} {m turn : ℕ} (st : Stored (λ (y : Pair). y) pair_kind f next us us' m turn) where
        pairs_here : StoredFirst (plan_pairs f) us us'
        pairs_here = (stored_pairs st (plan_pairs f) (only_pairs plan_shaped pair_kind refl refl (λ q. omega arith))).1

        counted : count ≡ length (plan_pairs f)
        counted = sym (only_count plan_shaped pair_kind refl refl (λ q. omega arith))

        plan_back : (count ≤ length us') × (take count us' ≡ plan_pairs f)
        plan_back = back_stored counted pairs_here

        pub plan_holds : count ≤ length us'
        plan_holds = plan_back.0

        pub plan_read : {cameras : ℕ} {fits : List Pair} {k : ℕ} → k ≡ first_no (pairing_questions cameras fits (take count us')) →
            PlanRead cameras fits f us us' k (answered k count)
        plan_read {cameras} {fits} {k} q =
            let none : first_no (plan_shape f) ≡ 0 = seven ∙ sym fit in
            record {
              says =
                  (rw plan_back.1 at q) ∙
                  sym (first_go (plan_shape f) (pairing_questions cameras fits (plan_pairs f)) refl none);
              counts = ap (answered k) counted;
              stores = all_stored (λ (zs : List Pair). zs) (plan_shape f) (plan_pairs f) none pairs_here;
            }

        pub plan_nine : {cameras : ℕ} {fits : List Pair} (e : Refusal) → refusal_number e ≡ first_no (pairing_questions cameras fits (take count us')) →
            PlanRead cameras fits f us us' (refusal_number e) 0
        plan_nine e q = simp beside_refusal at (plan_read q)

-- WHERE NOTHING IS REFUSED
both_none : (n : ℕ) (fs : List Pair) (f : List ℕ) → plan_fault n fs f ≡ 0 →
    (first_no (plan_shape f) ≡ 0) × (first_no (pairing_questions n fs (plan_pairs f)) ≡ 0)
both_none n fs f e = first_none (plan_shape f) (pairing_questions n fs (plan_pairs f)) refl e

pub plan_held : {cameras : ℕ} {fits : List Pair} {f : List ℕ} {us us' : List Pair} {number count : ℕ} → PlanRead cameras fits f us us' number count →
    number ≡ 0 → PlanHeld f us' count
plan_held {cameras} {fits} {f} {us} {us'} r e =
    let none = (both_none cameras fits f (sym r.says ∙ e)).0 in
    let back =
    back_stored (r.counts ∙ answered_none _ e)
    (subst (λ (zs : List Pair). StoredFirst zs us us') (stored_all (λ (zs : List Pair). zs) (plan_shape f) (plan_pairs f) none) r.stores) in
    record { room = back.0; pairs_are = back.1 }

-- pairs that are named, rise and share no camera are a pairing of themselves: twice as many cameras
pairing_few : (n : ℕ) (fs ps : List Pair) → first_no (pairing_questions n fs ps) ≡ 0 → 2 * length ps ≤ n
pairing_few n fs ps e =
    let s : Stock = record { cameras = n; fits = ps; lit = ps } in
    let w : WellFormedStock s =
    record {
      named = accepted 9 (pairing_questions n fs ps) refl e;
      rising = accepted 12 (pairing_questions n fs ps) refl e;
      lit_rising = accepted 12 (pairing_questions n fs ps) refl e;
      lit_fits = each_all (has_pair ps) ps (in_has_pair ps);
      lit_apart = accepted 14 (pairing_questions n fs ps) refl e;
    } in
    omega (arith, list_count n ps (well_formed_fits s w) ps (well_formed_lit s w))

pub plan_few : (n : ℕ) (fs : List Pair) (f : List ℕ) → n ≤ cameras_most → plan_fault n fs f ≡ 0 → length (plan_pairs f) ≤ pairs_most
plan_few n fs f h e = omega (arith, pairing_few n fs (plan_pairs f) (both_none n fs f e).1)

-- A PLAN AS IT IS WRITTEN
lines_fit_lem : (ps : List Pair) → bodies_fit (pair_kind ∷ []) 4 (map pair_line ps) ≡ true
unfolding bodies_fit hex_bytes hex_from
lines_fit_lem [] = refl
lines_fit_lem (x ∷ xs) = lines_fit_lem xs

module _ (ps : List Pair) where
  header_written : has_header plan_form (plan_text ps) ≡ true
  unfolding hex_bytes hex_from
  header_written =
      let some : 0 < length (lines_of (plan_text ps)) = rw (plan_lines_lem ps) (omega arith) in
      rw (lt-ltb _ _ some, plan_first ps)

  body_written : has_body plan_form (plan_text ps) ≡ true
  unfolding hex_bytes hex_from
  body_written =
      let some : 0 < length (rest_lines (plan_text ps)) =
      rw (plan_lines_lem ps) (omega (arith, length-append (map pair_line ps) (end_line (length ps) ∷ []))) in
      rw (lt-ltb _ _ some, plan_last ps, plan_body ps) (lines_fit_lem ps)

  count_written : length (body_lines (plan_text ps)) ≡ length ps
  count_written = ap (λ (ls : List (List ℕ)). length ls) (plan_body ps) ∙ length-map ps pair_line

  module _ (few : length ps ≤ plan_pairs_most) where
    agrees_written : count_agrees (plan_text ps) ≡ true
    unfolding hex_bytes
    agrees_written = eq-eqb _ _ (ap (hex_at 2 4) (plan_last ps) ∙ four_value (length ps) (omega arith) ∙ sym count_written)

    told_written : eqb (pairs_told (plan_text ps)) (length (body_lines (plan_text ps))) ≡ true
    unfolding hex_bytes
    told_written = eq-eqb _ _ (ap (hex_at 2 2) (plan_first ps) ∙ two_value (length ps) (omega arith) ∙ sym count_written)

    shape_written : first_no (plan_shape (plan_text ps)) ≡ 0
    shape_written =
        let short = le-leb (length (plan_text ps)) file_most (omega (arith, plan_size ps)) in
        let whole = and_left (is_whole_file (plan_text ps)) _ (plan_plain ps) in
        rw (short, whole, header_written, body_written, agrees_written, told_written)

pub plan_accepted : (n : ℕ) (fs ps : List Pair) → n ≤ cameras_most → first_no (pairing_questions n fs ps) ≡ 0 →
    (plan_fault n fs (plan_text ps) ≡ 0) × (plan_pairs (plan_text ps) ≡ ps)
plan_accepted n fs ps h e =
    let low : (x : Pair) → In x ps → (x.first < 256) × (x.second < 256) = λ x m.
    let r = and_two (ltb x.first n) (ltb x.second n) (all_each (pair_named n) ps (accepted 9 (pairing_questions n fs ps) refl e) x m) in
    (omega (arith, ltb-true x.first n r.0), omega (arith, ltb-true x.second n r.1)) in
    let same : plan_pairs (plan_text ps) ≡ ps = ap (pairs_in pair_kind) (plan_body ps) ∙ pairs_read_lem ps low in
    let none = shape_written ps (omega (arith, pairing_few n fs ps e)) in
    (first_go (plan_shape (plan_text ps)) (pairing_questions n fs (plan_pairs (plan_text ps))) refl none ∙ rw same e, same)
