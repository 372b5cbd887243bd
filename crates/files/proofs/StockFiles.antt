-- The questions of a stock file, one after the other.
--   stock_header, stock_five         questions 2 to 4 refuse, question 5 refuses
--   header_long, header_next         the header's number can be read, and the body
--   StockBody, stock_body            a stock past questions 2 to 7; questions 6 and 7 refuse
--   body_read                        what was read is such a stock
--   later f                          the questions past 8
--   stock_refused                    what is answered to a stock refused before its pairs are stored
--   stock_eight                      question 8 refuses
--   fits_room, lit_room              its fits and its lit pairs can be stored
--   Stocked, stocked                 both are, and can be read back
--   stock_read, stock_nine           what is answered then, and where a later question refuses
--   stock_held                       where nothing is refused, the slices hold the file's stock
use Rattle.std.proofs.Common.{◌≡◌, ◌≢◌, refl, ap, subst, sym, ◌∙◌, List, ℕ, ◌≤◌, arith, length, take, drop, leb}
use borrow.Author.Tests.{leb-true}
use Rattle.formats.specs.Kinds.{fit_kind, lit_kind}
use Rattle.formats.specs.Limits.{cameras_most, fits_most, lines_most}
use Rattle.formats.specs.Refusals.{refusal_number}
use Rattle.formats.specs.declared.refusals.Refusal.{Refusal}
use Rattle.counting.specs.declared.Pair.{Pair}
use Rattle.frames.specs.Frames.{unless, shape_fault, stock_form}
use Rattle.frames.specs.Questions.{Question, first_no, answered}
use Rattle.frames.specs.Numbers.{NumberAt}
use Rattle.frames.specs.Shape.{HeaderAnswer, BodyAnswer, Shaped}
use Rattle.frames.specs.declared.layout.TheConstants.{STOCK}
use Rattle.frames.specs.Stores.{run_at, Storable, StoredFirst, Stored}
use Rattle.frames.proofs.Questions.{first_stop, first_go, first_none, answered_none, refusal_some, beside_refusal, was_yes, was_no}
use Rattle.frames.proofs.HeaderFrames.{first_number, second_line}
use Rattle.frames.proofs.ShapeFaults.{shape_header, shape_five, shape_body, sized_shape, sized_eight, read_shaped}
use Rattle.frames.proofs.Stores.{stored_pairs, storable_next}
use Rattle.frames.proofs.StoredBodies.{body_storable, body_few, first_size, first_pairs, second_size, second_pairs}
use Rattle.files.specs.StockFile.{header_fits, stock_in, stock_fault, stock_sized, pairs_questions}
use Rattle.files.specs.Readers.{StockHeld, StockRead}
use Rattle.files.proofs.Tables.{stored_all, all_stored, none_stored, back_stored}
use Rattle.files.proofs.Asked.{stock_asked}

-- THE HEADER
pub record StockBody (f : List ℕ) (next cameras count firsts : ℕ) : Type 0 where
  pub shaped : Shaped stock_form f next count firsts
  pub none : shape_fault stock_form f (header_fits f) ≡ 0
  pub cameras_are : cameras ≡ (stock_in f).cameras

module _ (f : List ℕ) (e : Refusal) where
  sized : refusal_number e ≡ shape_fault stock_form f (header_fits f) → refusal_number e ≡ first_no (stock_sized f)
  sized q = sized_shape stock_form f (header_fits f) (leb (length (stock_in f).fits) fits_most) q (refusal_some e)

pub stock_header : {f : List ℕ} {next : ℕ} (e : Refusal) → HeaderAnswer stock_form f (refusal_number e) next → refusal_number e ≡ first_no (stock_sized f)
stock_header {f} e h = sized f e (shape_header h (header_fits f) (refusal_some e))

module _ {f : List ℕ} {next : ℕ} (h : HeaderAnswer stock_form f 0 next) where
  pub header_long : 4 ≤ length f
  header_long = let l = second_line h refl in omega (arith, l.past, l.high)

  pub header_next : next ≤ length f
  header_next = (second_line h refl).high

  module _ {c : ℕ} (x : NumberAt f 2 2 c) where
    cameras_read : c ≡ (stock_in f).cameras
    cameras_read = x.is ∙ sym (first_number f 4 next (second_line h refl) 2 2 (omega arith))

    fits_are : header_fits f ≡ leb c cameras_most
    fits_are = rw cameras_read

    pub stock_five : (e : Refusal) → refusal_number e ≡ unless (leb c cameras_most) 5 → refusal_number e ≡ first_no (stock_sized f)
    stock_five e q = let r = was_no e q in sized f e (r.1 ∙ shape_five h (header_fits f) refl (fits_are ∙ r.0))

    module _ (five : 0 ≡ unless (leb c cameras_most) 5) {m count firsts : ℕ} (b : BodyAnswer stock_form (drop next f) m count firsts) where
      body_is : m ≡ shape_fault stock_form f (header_fits f)
      body_is = shape_body h (header_fits f) refl (fits_are ∙ was_yes 5 five refl) b

    pub stock_body : (e : Refusal) → 0 ≡ unless (leb c cameras_most) 5 → {count firsts : ℕ} →
        BodyAnswer stock_form (drop next f) (refusal_number e) count firsts → refusal_number e ≡ first_no (stock_sized f)
    stock_body e five b = sized f e (body_is five b)

    pub body_read : 0 ≡ unless (leb c cameras_most) 5 → {count firsts : ℕ} → BodyAnswer stock_form (drop next f) 0 count firsts → StockBody f next c count firsts
    body_read five b = record { shaped = read_shaped STOCK h refl b refl; none = sym (body_is five b); cameras_are = cameras_read }

-- THE ANSWERS
abbrev later : (f : List ℕ) → List Question
later f = pairs_questions (stock_in f).cameras (stock_in f).fits (stock_in f).lit

pub stock_refused : {f : List ℕ} {us xs : List Pair} (e : Refusal) → refusal_number e ≡ first_no (stock_sized f) → StockRead f us xs us xs (refusal_number e) 0 0 0
stock_refused {f} {us} {xs} e q =
    let d : first_no (stock_sized f) ≢ 0 = λ z. refusal_some e (q ∙ z) in
    record {
      says = q ∙ sym (stock_asked f ∙ first_stop (stock_sized f) (later f) d);
      cameras_are = sym (beside_refusal e (stock_in f).cameras);
      fits_are = sym (beside_refusal e (length (stock_in f).fits));
      lit_are = sym (beside_refusal e (length (stock_in f).lit));
      stores = none_stored (λ (zs : List Pair). zs) (stock_sized f) (stock_in f).fits us refl d;
      stores_lit = none_stored (λ (zs : List Pair). zs) (stock_sized f) (stock_in f).lit xs refl d;
    }

-- the pairs of a file, stored
pub record Stocked (f : List ℕ) (us us' xs xs' : List Pair) (n m : ℕ) : Type 0 where
  pub fits_here : (n ≡ length (stock_in f).fits) × StoredFirst (stock_in f).fits us us'
  pub lit_here : (m ≡ length (stock_in f).lit) × StoredFirst (stock_in f).lit xs xs'
  pub lit_low : m ≤ length xs'
  pub fits_back : take n us' ≡ (stock_in f).fits
  pub lit_back : take m xs' ≡ (stock_in f).lit

module _ {f : List ℕ} {next c count firsts : ℕ} (g : StockBody f next c count firsts) where
  eight : first_no (stock_sized f) ≡ unless (leb firsts fits_most) 8
  eight =
      sized_eight stock_form f (header_fits f) (leb (length (stock_in f).fits) fits_most) g.none ∙
      ap (λ (i : ℕ). unless (leb i fits_most) 8) (sym g.shaped.first_counts)

  pub stock_eight : (e : Refusal) → refusal_number e ≡ unless (leb firsts fits_most) 8 → refusal_number e ≡ first_no (stock_sized f)
  stock_eight e q = q ∙ sym eight

  fits_size : length (run_at fit_kind f next) ≡ firsts
  fits_size = first_size g.shaped fit_kind lit_kind refl refl (λ q. omega arith) (λ q. omega arith) (λ q. omega arith)

  pub fits_room : (us : List Pair) → 0 ≡ unless (leb firsts fits_most) 8 → fits_most ≤ length us → Storable f next × (length (run_at fit_kind f next) ≤ length us)
  fits_room us fit r =
      let few = leb-true firsts fits_most (was_yes 8 fit refl) in
      (body_storable g.shaped (omega arith), omega (arith, fits_size))

  module _ {us us' : List Pair} {n turn : ℕ} (one : Stored (λ (x : Pair). x) fit_kind f next us us' n turn) where
    lit_size : length (run_at lit_kind f turn) ≤ lines_most
    lit_size =
        let s = second_size g.shaped fit_kind lit_kind refl refl (λ q. omega arith) (λ q. omega arith) (λ q. omega arith) one.passed in
        omega (arith, s, body_few g.shaped (omega arith), g.shaped.short)

    pub lit_room : (xs : List Pair) → lines_most ≤ length xs → Storable f turn × (length (run_at lit_kind f turn) ≤ length xs)
    lit_room xs r = (storable_next (body_storable g.shaped (omega arith)) one.passed, omega (arith, lit_size))

    pub stocked : {xs xs' : List Pair} {m end : ℕ} → Stored (λ (x : Pair). x) lit_kind f turn xs xs' m end → Stocked f us us' xs xs' firsts m
    stocked two =
        let fits = (stored_pairs one (stock_in f).fits (first_pairs g.shaped fit_kind lit_kind refl refl (λ q. omega arith) (λ q. omega arith) (λ q. omega arith))).1 in
        let lit =
        stored_pairs two (stock_in f).lit (second_pairs g.shaped fit_kind lit_kind refl refl (λ q. omega arith) (λ q. omega arith) (λ q. omega arith) one.passed) in
        let fits_back = back_stored g.shaped.first_counts fits in
        let lit_back = back_stored lit.0 lit.1 in
        record { fits_here = (g.shaped.first_counts, fits); lit_here = lit; lit_low = lit_back.0; fits_back = fits_back.1; lit_back = lit_back.1 }

  module _ {us us' xs xs' : List Pair} {n m : ℕ} (s : Stocked f us us' xs xs' n m) (fit : 0 ≡ unless (leb firsts fits_most) 8) where
    pub stock_read : {k : ℕ} → k ≡ first_no (pairs_questions c (take n us') (take m xs')) → StockRead f us xs us' xs' k (answered k c) (answered k n) (answered k m)
    stock_read {k} q =
        let none : first_no (stock_sized f) ≡ 0 = eight ∙ sym fit in
        record {
          says = q ∙ rw (s.fits_back, s.lit_back, g.cameras_are) (sym (stock_asked f ∙ first_go (stock_sized f) (later f) refl none));
          cameras_are = ap (answered k) g.cameras_are;
          fits_are = ap (answered k) s.fits_here.0;
          lit_are = ap (answered k) s.lit_here.0;
          stores = all_stored (λ (zs : List Pair). zs) (stock_sized f) (stock_in f).fits none s.fits_here.1;
          stores_lit = all_stored (λ (zs : List Pair). zs) (stock_sized f) (stock_in f).lit none s.lit_here.1;
        }

    pub stock_nine : (e : Refusal) → refusal_number e ≡ first_no (pairs_questions c (take n us') (take m xs')) → StockRead f us xs us' xs' (refusal_number e) 0 0 0
    stock_nine e q = simp beside_refusal at (stock_read q)

-- WHERE NOTHING IS REFUSED
pub stock_held : {f : List ℕ} {us xs us' xs' : List Pair} {n c k l : ℕ} → StockRead f us xs us' xs' n c k l → n ≡ 0 → StockHeld f us' xs' c k l
stock_held {f} {us} {xs} {us'} {xs'} r e =
    let fault : stock_fault f ≡ 0 = sym r.says ∙ e in
    let none = (first_none (stock_sized f) (later f) refl (sym (stock_asked f) ∙ fault)).0 in
    let fits =
    back_stored (r.fits_are ∙ answered_none _ e)
    (subst (λ (zs : List Pair). StoredFirst zs us us') (stored_all (λ (zs : List Pair). zs) (stock_sized f) (stock_in f).fits none) r.stores) in
    let lit =
    back_stored (r.lit_are ∙ answered_none _ e)
    (subst (λ (zs : List Pair). StoredFirst zs xs xs') (stored_all (λ (zs : List Pair). zs) (stock_sized f) (stock_in f).lit none) r.stores_lit) in
    record {
      cameras_are = r.cameras_are ∙ answered_none _ e;
      fits_room = fits.0;
      fits_are = fits.1;
      lit_room = lit.0;
      lit_are = lit.1;
    }
