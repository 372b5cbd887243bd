-- The questions of a certificate, one after the other.
--   path_shape, path_eight                          questions 2 to 7 refuse a path; question 8 does
--   path_refused                                    what is answered to a path refused before anything is stored
--   path_room                                       its arc numbers can be stored
--   path_read, path_nine                            what is answered then, and where question 9 refuses
--   path_says, path_held                            of what is answered: document 03's fault over a graph, and the arc numbers held
--   barrier_shape, barrier_eight, barrier_refused, barrier_room, barrier_read, barrier_nine, barrier_says, barrier_held
--                                                   the same of a barrier, whose classes are stored beside its lines
use Rattle.std.proofs.Common.{◌≡◌, refl, ap, subst, sym, ◌∙◌, Bool, true, List, [], ◌∷◌, ◌++◌, ℕ, ◌≤◌, arith, length, take, eqb, ltb, leb}
use borrow.Author.Tests.{eqb-true, ltb-true, leb-true}
use Rattle.std.specs.List.{list_all}
use Rattle.formats.specs.Kinds.{class_kind, step_kind}
use Rattle.formats.specs.Limits.{steps_most}
use Rattle.formats.specs.Refusals.{refusal_number}
use Rattle.formats.specs.declared.refusals.Refusal.{Refusal}
use Rattle.counting.specs.Tests.{all}
use Rattle.counting.specs.Pairs.{seconds_of, number_of}
use Rattle.counting.specs.declared.Pair.{Pair}
use Rattle.counting.proofs.Booleans.{list_all_is}
use Rattle.counting.proofs.Membership.{all_get_d}
use Rattle.counting.proofs.Zips.{seconds_length}
use Rattle.frames.specs.Frames.{unless, path_form, barrier_form, body_lines, pairs_in}
use Rattle.frames.specs.Questions.{Question, ask, first_no, are_numbered, answered}
use Rattle.frames.specs.Shape.{shape_questions, Shaped, ShapeAnswer}
use Rattle.frames.specs.declared.layout.TheConstants.{PATH, BARRIER}
use Rattle.frames.specs.Lines.{line_after}
use Rattle.frames.specs.Stores.{run_at, Storable, StoredFirst, Stored}
use Rattle.frames.proofs.Questions.{first_stop, first_go, first_none, accepted, answered_none, refusal_some, beside_refusal, was_yes}
use Rattle.frames.proofs.ShapeFaults.{shape_asked, sized_shape, sized_eight, answer_shaped}
use Rattle.frames.proofs.Stores.{stored_as, stored_pairs, numbers_length}
use Rattle.frames.proofs.StoredBodies.{body_storable, only_size, only_pairs, only_count, only_numbers}
use Rattle.skew.specs.Graph.{Graph, nodes}
use Rattle.files.specs.CertificateFile.{path_arcs, path_fault, path_sized, path_questions, names_in_order, barrier_fault, barrier_sized, barrier_questions}
use Rattle.files.specs.CertificateReaders.{CertificateAnswer, PathHeld, PathRead, BarrierHeld, BarrierRead}
use Rattle.files.proofs.Tables.{stored_all, all_stored, none_stored, back_stored}
use Rattle.files.proofs.Asked.{path_asked, barrier_asked}

-- BESIDE A NUMBER
module _ {f : List ℕ} (qs : List Question) (nine : Bool) where
  refused_early : (e : Refusal) → refusal_number e ≡ first_no qs → CertificateAnswer (qs ++ ask 9 nine ∷ []) f (refusal_number e) 0
  refused_early e q =
      record {
        says = q ∙ sym (first_stop qs (ask 9 nine ∷ []) (λ z. refusal_some e (q ∙ z)));
        counts = sym (beside_refusal e (length (body_lines f)));
      }

  read_through : {k count : ℕ} → are_numbered qs ≡ true → first_no qs ≡ 0 → k ≡ unless nine 9 → count ≡ length (body_lines f) →
      CertificateAnswer (qs ++ ask 9 nine ∷ []) f k (answered k count)
  read_through {k} p e q l = record { says = q ∙ sym (first_go qs (ask 9 nine ∷ []) p e); counts = ap (answered k) l }

-- A PATH
pub path_refused : {f arcs : List ℕ} {bound : ℕ} (e : Refusal) → refusal_number e ≡ first_no (path_sized f) → PathRead f arcs arcs bound (refusal_number e) 0
path_refused {f} {arcs} {bound} e q =
    record {
      answer = refused_early (path_sized f) (all (λ (i : ℕ). ltb i bound) (path_arcs f)) e q;
      stores = none_stored (λ (is : List ℕ). is) (path_sized f) (path_arcs f) arcs refl (λ z. refusal_some e (q ∙ z));
    }

pub path_shape : {f : List ℕ} {next count : ℕ} (e : Refusal) → ShapeAnswer path_form f (refusal_number e) next count → refusal_number e ≡ first_no (path_sized f)
path_shape {f} e a = sized_shape path_form f true (leb (length (body_lines f)) steps_most) a.says (refusal_some e)

module _ {f : List ℕ} {next count : ℕ} (a : ShapeAnswer path_form f 0 next count) where
  path_fits : first_no (path_sized f) ≡ unless (leb count steps_most) 8
  path_fits = rw a.counts (sized_eight path_form f true (leb (length (body_lines f)) steps_most) (sym a.says))

  pub path_eight : (e : Refusal) → refusal_number e ≡ unless (leb count steps_most) 8 → refusal_number e ≡ first_no (path_sized f)
  path_eight e q = q ∙ sym path_fits

  path_shaped : Shaped path_form f next count (length (pairs_in step_kind (body_lines f)))
  path_shaped = answer_shaped PATH a refl

  module _ (fit : 0 ≡ unless (leb count steps_most) 8) where
    pub path_room : (xs : List ℕ) → steps_most ≤ length xs → Storable f next × (length (run_at step_kind f next) ≤ length xs)
    path_room xs r =
        let few = leb-true count steps_most (was_yes 8 fit refl) in
        (body_storable path_shaped (omega arith), omega (arith, only_size path_shaped step_kind refl refl (λ q. omega arith)))

    module _ {xs ys : List ℕ} {m turn : ℕ} (st : Stored number_of step_kind f next xs ys m turn) where
      arcs_here : StoredFirst (path_arcs f) xs ys
      arcs_here = (stored_as st (path_arcs f) (only_numbers path_shaped step_kind refl refl (λ q. omega arith) (omega arith))).1

      module _ {bound : ℕ} {z : Bool} (asked : z ≡ list_all (λ (i : ℕ). ltb i bound) (take count ys)) where
        pub path_read : {k : ℕ} → k ≡ unless z 9 → PathRead f xs ys bound k (answered k count)
        path_read q =
            let none : first_no (path_sized f) ≡ 0 = path_fits ∙ sym fit in
            let here = (back_stored (a.counts ∙ sym (numbers_length (body_lines f))) arcs_here).1 in
            record {
              answer =
                  read_through (path_sized f) (all (λ (i : ℕ). ltb i bound) (path_arcs f)) refl none
                  (rw (asked, list_all_is (λ (i : ℕ). ltb i bound) (take count ys), here) at q) a.counts;
              stores = all_stored (λ (is : List ℕ). is) (path_sized f) (path_arcs f) none arcs_here;
            }

        pub path_nine : (e : Refusal) → refusal_number e ≡ unless z 9 → PathRead f xs ys bound (refusal_number e) 0
        path_nine e q = simp beside_refusal at (path_read q)

module _ {f xs ys : List ℕ} {bound n c : ℕ} (r : PathRead f xs ys bound n c) where
  pub path_says : (g : Graph) → length g.arcs ≡ bound → n ≡ path_fault g f
  path_says g e = r.answer.says ∙ ap (λ (b : ℕ). first_no (path_questions b f)) (sym e) ∙ sym (path_asked g f)

  pub path_held : n ≡ 0 → PathHeld f ys bound c
  path_held e =
      let none = sym r.answer.says ∙ e in
      let nine = accepted 9 (path_questions bound f) refl none in
      let back =
      back_stored (r.answer.counts ∙ answered_none (length (body_lines f)) e ∙ sym (numbers_length (body_lines f)))
      (subst (λ (is : List ℕ). StoredFirst is xs ys)
      (stored_all (λ (is : List ℕ). is) (path_sized f) (path_arcs f)
      (first_none (path_sized f) (ask 9 (all (λ (i : ℕ). ltb i bound) (path_arcs f)) ∷ []) refl none).0) r.stores) in
      record {
        room = back.0;
        arcs_are = back.1;
        below = rw back.1 (λ k h. ltb-true _ _ (all_get_d (λ (i : ℕ). ltb i bound) (path_arcs f) 0 k nine h));
      }

-- A BARRIER
pub barrier_refused : {f : List ℕ} {xs : List Pair} {ys : List ℕ} {bound : ℕ} (e : Refusal) → refusal_number e ≡ first_no (barrier_sized bound f) →
    BarrierRead f xs ys xs ys bound (refusal_number e) 0
unfolding seconds_of
barrier_refused {f} {xs} {ys} {bound} e q =
    record {
      answer = refused_early (barrier_sized bound f) (names_in_order 0 (pairs_in class_kind (body_lines f))) e q;
      stores = none_stored (λ (zs : List Pair). zs) (barrier_sized bound f) (pairs_in class_kind (body_lines f)) xs refl (λ z. refusal_some e (q ∙ z));
      stores_classes = none_stored (λ (zs : List Pair). seconds_of zs) (barrier_sized bound f) (pairs_in class_kind (body_lines f)) ys refl (λ z. refusal_some e (q ∙ z));
    }

pub barrier_shape : {f : List ℕ} {next count : ℕ} (bound : ℕ) (e : Refusal) → ShapeAnswer barrier_form f (refusal_number e) next count →
    refusal_number e ≡ first_no (barrier_sized bound f)
barrier_shape {f} bound e a = sized_shape barrier_form f true (eqb (length (body_lines f)) bound) a.says (refusal_some e)

module _ {f : List ℕ} {next count : ℕ} (a : ShapeAnswer barrier_form f 0 next count) (bound : ℕ) where
  barrier_fits : first_no (barrier_sized bound f) ≡ unless (eqb count bound) 8
  barrier_fits = rw a.counts (sized_eight barrier_form f true (eqb (length (body_lines f)) bound) (sym a.says))

  pub barrier_eight : (e : Refusal) → refusal_number e ≡ unless (eqb count bound) 8 → refusal_number e ≡ first_no (barrier_sized bound f)
  barrier_eight e q = q ∙ sym barrier_fits

  barrier_shaped : Shaped barrier_form f next count (length (pairs_in class_kind (body_lines f)))
  barrier_shaped = answer_shaped BARRIER a refl

  module _ (fit : 0 ≡ unless (eqb count bound) 8) where
    pub barrier_room : (xs : List Pair) → bound ≤ length xs → Storable f next × (length (run_at class_kind f next) ≤ length xs)
    barrier_room xs r =
        let n = only_size barrier_shaped class_kind refl refl (λ q. omega arith) in
        let same = eqb-true count bound (was_yes 8 fit refl) in
        (body_storable barrier_shaped (omega arith), omega (arith, n, same))

    module _ {xs zs : List Pair} {m turn : ℕ} (st : Stored (λ (x : Pair). x) class_kind f next xs zs m turn) {z : Bool} (asked : z ≡ names_in_order 0 (take count zs)) where
      pub barrier_read : {ys ys' : List ℕ} {k : ℕ} → StoredFirst (seconds_of (take count zs)) ys ys' → k ≡ unless z 9 → BarrierRead f xs ys zs ys' bound k (answered k count)
      barrier_read {ys} {ys'} classes q =
          let lines = pairs_in class_kind (body_lines f) in
          let none : first_no (barrier_sized bound f) ≡ 0 = barrier_fits ∙ sym fit in
          let here = (stored_pairs st lines (only_pairs barrier_shaped class_kind refl refl (λ y. omega arith))).1 in
          let back = (back_stored (sym (only_count barrier_shaped class_kind refl refl (λ y. omega arith))) here).1 in
          record {
            answer = read_through (barrier_sized bound f) (names_in_order 0 lines) refl none (rw (asked, back) at q) a.counts;
            stores = all_stored (λ (us : List Pair). us) (barrier_sized bound f) lines none here;
            stores_classes =
                all_stored (λ (us : List Pair). seconds_of us) (barrier_sized bound f) lines none (subst (λ (us : List Pair). StoredFirst (seconds_of us) ys ys') back classes);
          }

      pub barrier_nine : {ys ys' : List ℕ} → StoredFirst (seconds_of (take count zs)) ys ys' → (e : Refusal) → refusal_number e ≡ unless z 9 →
          BarrierRead f xs ys zs ys' bound (refusal_number e) 0
      barrier_nine classes e q = simp beside_refusal at (barrier_read classes q)

module _ {f : List ℕ} {xs zs : List Pair} {ys ys' : List ℕ} {bound n c : ℕ} (r : BarrierRead f xs ys zs ys' bound n c) where
  pub barrier_says : (g : Graph) → nodes g ≡ bound → n ≡ barrier_fault g f
  barrier_says g e = r.answer.says ∙ ap (λ (b : ℕ). first_no (barrier_questions b f)) (sym e) ∙ sym (barrier_asked g f)

  pub barrier_held : n ≡ 0 → BarrierHeld f ys' c
  barrier_held e =
      let lines = pairs_in class_kind (body_lines f) in
      let none = (first_none (barrier_sized bound f) (ask 9 (names_in_order 0 lines) ∷ []) refl (sym r.answer.says ∙ e)).0 in
      let shape = shape_asked barrier_form f true ∙ (first_none (shape_questions barrier_form f true) (ask 8 (eqb (length (body_lines f)) bound) ∷ []) refl none).0 in
      let s : Shaped barrier_form f (line_after f 0) (length (body_lines f)) (length lines) =
      answer_shaped BARRIER (record { says = sym shape; second_line = refl; counts = refl }) refl in
      let k = r.answer.counts ∙ answered_none (length (body_lines f)) e ∙ sym (only_count s class_kind refl refl (λ q. omega arith)) in
      let stored = subst (λ (us : List ℕ). StoredFirst us ys ys') (stored_all (λ (us : List Pair). seconds_of us) (barrier_sized bound f) lines none) r.stores_classes in
      let back = back_stored (k ∙ sym (seconds_length lines)) stored in
      record { room = back.0; classes_are = back.1 }
