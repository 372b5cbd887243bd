-- The questions of a graph file, one after the other.
--   graph_header, graph_five       questions 2 to 4 refuse, question 5 refuses
--   header_long, header_next       the header's numbers can be read, and the body
--   GraphBody, graph_body          a graph past questions 2 to 7; questions 6 and 7 refuse
--   body_read                      what was read is such a graph
--   graph_refused                  what is answered to a graph refused before its arcs are stored
--   graph_eight                    question 8 refuses
--   graph_room                     its arcs can be stored
--   graph_read, graph_nine         what is answered then, and where a later question refuses
--   graph_held                     where nothing is refused, the slice holds the file's graph
use Rattle.std.proofs.Common.{◌≡◌, ◌≢◌, refl, ap, subst, sym, ◌∙◌, Bool, List, [], ◌∷◌, map, ℕ, ◌*◌, ◌≤◌, arith, length, take, drop, ◌%◌, eqb}
use borrow.Author.Tests.{leb-true}
use Rattle.formats.specs.Kinds.{arc_kind}
use Rattle.formats.specs.Limits.{arcs_most}
use Rattle.formats.specs.Refusals.{refusal_number}
use Rattle.formats.specs.declared.refusals.Refusal.{Refusal}
use Rattle.counting.specs.declared.Pair.{Pair}
use Rattle.counting.proofs.Booleans.{and_right}
use Rattle.frames.specs.Frames.{unless, shape_fault, graph_form}
use Rattle.frames.specs.Questions.{first_no, answered}
use Rattle.frames.specs.Numbers.{NumberAt}
use Rattle.frames.specs.Shape.{HeaderAnswer, BodyAnswer, Shaped}
use Rattle.frames.specs.declared.layout.TheConstants.{GRAPH}
use Rattle.frames.specs.Stores.{run_at, Storable, StoredFirst, Stored}
use Rattle.frames.proofs.Questions.{first_stop, first_go, first_none, answered_none, refusal_some, beside_refusal, was_yes, was_no}
use Rattle.frames.proofs.HeaderFrames.{first_number, second_line}
use Rattle.frames.proofs.ShapeFaults.{shape_header, shape_five, shape_body, sized_shape, sized_eight, read_shaped}
use Rattle.frames.proofs.StoredBodies.{body_storable, only_size, only_pairs, only_count}
use Rattle.frames.proofs.Stores.{stored_as}
use Rattle.skew.specs.Graph.{arc_of, arcs_of, nodes}
use Rattle.skew.specs.declared.Arc.{Arc}
use Rattle.skew.proofs.Arcs.{arcs_length}
use Rattle.files.specs.GraphFile.{header_fits, arc_pairs, graph_in, graph_fault, numbers_fit, arcs_fit, graph_sized, arcs_questions}
use Rattle.files.specs.Readers.{GraphHeld, GraphRead}
use Rattle.files.proofs.Tables.{stored_all, all_stored, none_stored, back_stored}
use Rattle.files.proofs.Asked.{graph_asked}

-- THE HEADER
pub record GraphBody (f : List ℕ) (next pairs source count firsts : ℕ) : Type 0 where
  pub shaped : Shaped graph_form f next count firsts
  pub none : shape_fault graph_form f (header_fits f) ≡ 0
  pub pairs_are : pairs ≡ (graph_in f).pairs
  pub source_is : source ≡ (graph_in f).source

module _ (f : List ℕ) (e : Refusal) where
  sized : refusal_number e ≡ shape_fault graph_form f (header_fits f) → refusal_number e ≡ first_no (graph_sized f)
  sized q = sized_shape graph_form f (header_fits f) (arcs_fit (length (graph_in f).arcs)) q (refusal_some e)

pub graph_header : {f : List ℕ} {next : ℕ} (e : Refusal) → HeaderAnswer graph_form f (refusal_number e) next → refusal_number e ≡ first_no (graph_sized f)
graph_header {f} e h = sized f e (shape_header h (header_fits f) (refusal_some e))

module _ {f : List ℕ} {next : ℕ} (h : HeaderAnswer graph_form f 0 next) where
  pub header_long : 6 ≤ length f
  header_long = let l = second_line h refl in omega (arith, l.past, l.high)

  pub header_next : next ≤ length f
  header_next = (second_line h refl).high

  module _ {p s : ℕ} {z : Bool} (x : NumberAt f 2 2 p) (y : NumberAt f 4 2 s) (fits : z ≡ numbers_fit p s) where
    pairs_read_lem : p ≡ (graph_in f).pairs
    pairs_read_lem = x.is ∙ sym (first_number f 6 next (second_line h refl) 2 2 (omega arith))

    source_read : s ≡ (graph_in f).source
    source_read = y.is ∙ sym (first_number f 6 next (second_line h refl) 4 2 (omega arith))

    fits_are : header_fits f ≡ z
    fits_are = rw (fits, pairs_read_lem, source_read)

    pub graph_five : (e : Refusal) → refusal_number e ≡ unless z 5 → refusal_number e ≡ first_no (graph_sized f)
    graph_five e q = let r = was_no e q in sized f e (r.1 ∙ shape_five h (header_fits f) refl (fits_are ∙ r.0))

    module _ (five : 0 ≡ unless z 5) {m count firsts : ℕ} (b : BodyAnswer graph_form (drop next f) m count firsts) where
      body_is : m ≡ shape_fault graph_form f (header_fits f)
      body_is = shape_body h (header_fits f) refl (fits_are ∙ was_yes 5 five refl) b

    pub graph_body : (e : Refusal) → 0 ≡ unless z 5 → {count firsts : ℕ} → BodyAnswer graph_form (drop next f) (refusal_number e) count firsts →
        refusal_number e ≡ first_no (graph_sized f)
    graph_body e five b = sized f e (body_is five b)

    pub body_read : 0 ≡ unless z 5 → {count firsts : ℕ} → BodyAnswer graph_form (drop next f) 0 count firsts → GraphBody f next p s count firsts
    body_read five b =
        record {
          shaped = read_shaped GRAPH h refl b refl;
          none = sym (body_is five b);
          pairs_are = pairs_read_lem;
          source_is = source_read;
        }

-- THE ANSWERS
pub graph_refused : {f : List ℕ} {xs : List Arc} (e : Refusal) → refusal_number e ≡ first_no (graph_sized f) → GraphRead f xs xs (refusal_number e) 0 0 0
unfolding arcs_of
graph_refused {f} {xs} e q =
    let d : first_no (graph_sized f) ≢ 0 = λ z. refusal_some e (q ∙ z) in
    record {
      says = q ∙ sym (graph_asked f ∙ first_stop (graph_sized f) (arcs_questions (nodes (graph_in f)) (graph_in f).arcs) d);
      pairs_are = sym (beside_refusal e (graph_in f).pairs);
      source_is = sym (beside_refusal e (graph_in f).source);
      arcs_are = sym (beside_refusal e (length (graph_in f).arcs));
      stores = none_stored arcs_of (graph_sized f) (arc_pairs f) xs refl d;
    }

map_arcs : (xs : List Pair) → map arc_of xs ≡ arcs_of xs
unfolding arcs_of
map_arcs [] = refl
map_arcs (x ∷ xs) = ap (λ (ys : List Arc). arc_of x ∷ ys) (map_arcs xs)

module _ {f : List ℕ} {next p s count firsts : ℕ} (g : GraphBody f next p s count firsts) where
  count_is : length (graph_in f).arcs ≡ count
  count_is = arcs_length (arc_pairs f) ∙ only_count g.shaped arc_kind refl refl (λ q. omega arith)

  module _ {z : Bool} (fits : z ≡ arcs_fit count) where
    eight : first_no (graph_sized f) ≡ unless z 8
    eight =
        sized_eight graph_form f (header_fits f) (arcs_fit (length (graph_in f).arcs)) g.none ∙
        rw (fits, count_is)

    pub graph_eight : (e : Refusal) → refusal_number e ≡ unless z 8 → refusal_number e ≡ first_no (graph_sized f)
    graph_eight e q = q ∙ sym eight

    module _ (q : 0 ≡ unless z 8) where
      pub graph_room : (xs : List Arc) → arcs_most ≤ length xs → Storable f next × (length (run_at arc_kind f next) ≤ length xs)
      graph_room xs r =
          let few = leb-true count arcs_most (and_right (eqb (count % 2) 0) _ (sym fits ∙ was_yes 8 q refl)) in
          (body_storable g.shaped (omega arith), omega (arith, only_size g.shaped arc_kind refl refl (λ y. omega arith)))

      module _ {xs ys : List Arc} {n turn : ℕ} (st : Stored arc_of arc_kind f next xs ys n turn) where
        arcs_here : StoredFirst (graph_in f).arcs xs ys
        arcs_here =
            (stored_as st (graph_in f).arcs
            (ap (λ (ps : List Pair). map arc_of ps) (only_pairs g.shaped arc_kind refl refl (λ y. omega arith)) ∙ map_arcs (arc_pairs f))).1

        pub graph_read : {k : ℕ} → k ≡ first_no (arcs_questions (2 * p) (take count ys)) → GraphRead f xs ys k (answered k p) (answered k s) (answered k count)
        graph_read {k} later =
            let none : first_no (graph_sized f) ≡ 0 = eight ∙ sym q in
            let here = back_stored (sym count_is) arcs_here in
            record {
              says =
                  later ∙ rw (here.1, g.pairs_are)
                  (sym (graph_asked f ∙ first_go (graph_sized f) (arcs_questions (nodes (graph_in f)) (graph_in f).arcs) refl none));
              pairs_are = ap (answered k) g.pairs_are;
              source_is = ap (answered k) g.source_is;
              arcs_are = ap (answered k) (sym count_is);
              stores = all_stored arcs_of (graph_sized f) (arc_pairs f) none arcs_here;
            }

        pub graph_nine : (e : Refusal) → refusal_number e ≡ first_no (arcs_questions (2 * p) (take count ys)) → GraphRead f xs ys (refusal_number e) 0 0 0
        graph_nine e later = simp beside_refusal at (graph_read later)

-- WHERE NOTHING IS REFUSED
pub graph_held : {f : List ℕ} {xs ys : List Arc} {n p s a : ℕ} → GraphRead f xs ys n p s a → n ≡ 0 → GraphHeld f ys p s a
graph_held {f} {xs} {ys} r e =
    let fault : graph_fault f ≡ 0 = sym r.says ∙ e in
    let none = (first_none (graph_sized f) (arcs_questions (nodes (graph_in f)) (graph_in f).arcs) refl (sym (graph_asked f) ∙ fault)).0 in
    let back =
    back_stored (r.arcs_are ∙ answered_none _ e)
    (subst (λ (us : List Arc). StoredFirst us xs ys) (stored_all arcs_of (graph_sized f) (arc_pairs f) none) r.stores) in
    record {
      pairs_are = r.pairs_are ∙ answered_none _ e;
      source_is = r.source_is ∙ answered_none _ e;
      room = back.0;
      arcs_are = back.1;
    }
