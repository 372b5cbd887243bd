-- From the search's end to its answer.
--   exhausted                     the source's mate is not reached: the tables show that there is no path
--   restorable, path_written      the source's mate is reached: the path is restored
--   table_tells              the table of the reachable nodes, read
--   none_reached             the nodes' flags by their births are that table
--   wanted_front             the path written, read back
--   reached_answer, class_answer      what the search and the closure's call leave, for the reached nodes and for the classes
--   fronts_blank             the fronts of new tables are clear: tables before a search
use mathlib.Core.Path.{◌≡◌, refl, sym, ap, subst, ◌∙◌}
use mathlib.Core.Logic.{◌⊎◌, inl, inr, ⊎_elim}
use mathlib.Core.Bool.{Bool, true, false}
use mathlib.Core.List.{List}
use Prim.Native.Nat.{ℕ, zero, suc, ◌+◌, ◌*◌, ◌≤◌, ◌<◌}
use native.Mathlib.Omega.{arith}
use lib.Dec.{eqb}
use lib.ListN.{length, get_or, take, replicate}
use lib.Seq.{ext_get_or}
use Rattle.std.specs.Prelude.{Option, Some, None}
use Rattle.std.specs.Borrow.{Bor, MutBor}
use Rattle.std.specs.Fn.{Mut, CalledAt}
use Rattle.formats.specs.Limits.{mate_pairs_most}
use Rattle.counting.specs.Tests.{up_from}
use Rattle.counting.specs.SliceVecs.{Begun}
use Rattle.counting.proofs.SliceVecs.{extended_lent}
use Rattle.counting.specs.declared.slice_vec.SliceVec.{SliceVec}
use Rattle.counting.proofs.Booleans.{and_left}
use Rattle.counting.proofs.Range.{pigeonhole}
use Rattle.counting.proofs.Stores.{take_sets}
use Rattle.skew.specs.Graph.{Graph, mate, nodes, nodes_along, end_of, is_regular, is_wanted, is_reachable, canonical}
use Rattle.skew.specs.Paths.{head, WellFormed}
use Rattle.skew.specs.Search.{State, Earlier}
use Rattle.skew.proofs.Paths.{regular_path, nodes_within, length_nodes}
use Rattle.skew.proofs.Restoration.{restored_path}
use Rattle.search.specs.Tables.{Labels, labels, is_reached, queue, tables}
use Rattle.search.specs.State.{state_in, Clear}
use Rattle.std.proofs.lemmas.List.{take-replicate}
use Rattle.search.specs.Queue.{Blank, SearchEnded}
use Rattle.search.specs.Restore.{Route, LabelTable, Restorable, Restored}
use Rattle.search.specs.ClassTable.{Exhausted}
use Rattle.search.specs.Answer.{PathWritten, ReachedTold, reached_from, reached_table, Explored, PathOrReached, PathOrClasses}
use Rattle.search.specs.declared.steps.Labels as lent_labels
use Rattle.search.proofs.States.{cleared}
use Rattle.search.proofs.ClassTables.{no_path, table_reached}

-- a wanted path has fewer arcs than the graph has nodes
wanted_short : (g : Graph) → WellFormed g → (p : List ℕ) → is_wanted g p ≡ true → length p < nodes g
wanted_short g wf p e =
    let P = regular_path g p (and_left (is_regular g p) (eqb (end_of g g.source p) (mate g.source)) e) in
    omega (
      arith,
      length_nodes g g.source p,
      pigeonhole (nodes g) (nodes_along g g.source p) P.once
          (nodes_within g (nodes g) g.source (end_of g g.source p) p wf.head_node wf.source_node P.joins),
    )

module _ {g : Graph} {L : Labels} {marks : List Bool} {found : Bool} (E : SearchEnded g L marks found) where
  abbrev st : State
  st = state_in L E.clock

  pub exhausted : found ≡ false → Exhausted g L
  exhausted shut =
      let C = E.closed shut in record { clock = E.clock; search = E.search; closed = C.0; shut = C.1 }

  -- THE PATH
  label_table : LabelTable g L
  label_table =
      record {
        table = E.search.table;
        births_long = E.search.state.births_long;
        vias_long = E.search.state.vias_long;
        tail_earlier = λ v l h. (earlier v l h).tail_earlier;
        head_earlier = λ v l h.
            ⊎_elim {C = (head g (get_or L.vias v 0) ≡ v) ⊎ (get_or L.births (mate (head g (get_or L.vias v 0))) 0 < get_or L.births v 0)}
            (λ q. inl q) (λ q. inr q.1) (earlier v l h).head_mate;
      }
    where
      earlier : (v : ℕ) → is_reached L v ≡ true → get_or L.vias v 0 < length g.arcs → Earlier g st v
      earlier v l h = let I = E.search.state.invariant in I.via_earlier v l (λ q. omega (arith, I.source_via, ap st.via q, h))

  module _ (yes : found ≡ true) {m : ℕ} (em : m ≡ mate g.source) where
    wanted : (p : List ℕ) × Route g L g.source (mate g.source) p × (is_wanted g p ≡ true)
    wanted = restored_path g E.search.table.well_formed st E.search.state.invariant (E.path yes)

    short : length wanted.0 < nodes g
    short = wanted_short g E.search.table.well_formed wanted.0 wanted.2

    module _ {slice : MutBor (List ℕ)} {w : SliceVec ℕ} (B : Begun slice w) where
      pub restorable : 2 * g.pairs ≤ length slice.now → Restorable g L g.source m w.len (length w.slice.now)
      restorable h =
          rw em (record { labels = label_table; path = wanted.0; route = wanted.1; room = omega (arith, short, B.empty, ap length B.slice_is) })

      pub path_written : {w' : SliceVec ℕ} {after : List ℕ} → Restored g L g.source m w w' →
          (slice.ghost_name ≡ w'.slice.ghost_name → after ≡ w'.slice.now) → PathWritten g w'.len slice.now after
      path_written R same =
          let p = wanted.0 in
          let x = R p (subst (λ (y : ℕ). Route g L g.source y p) (sym em) wanted.1) in
          record {
            arcs = p;
            wanted = wanted.2;
            count = omega (arith, x.len_is, B.empty);
            few = omega (arith, short, x.len_is, B.empty);
            written = extended_lent B x same;
          }

-- THE TABLE OF THE REACHED NODES
reached_at : (g : Graph) (a k i : ℕ) → i < k → get_or (reached_from g (up_from a k)) i false ≡ is_reachable g (a + i)
unfolding reached_from up_from
reached_at g a zero i l = absurd (omega arith)
reached_at g a (suc k) zero l = let e : a + 0 ≡ a = omega arith in rw e
reached_at g a (suc k) (suc i) l = let e : a + suc i ≡ suc a + i = omega arith in rw e (reached_at g (suc a) k i (omega arith))

reached_length : (g : Graph) (a k : ℕ) → length (reached_from g (up_from a k)) ≡ k
unfolding reached_from up_from
reached_length g a zero = refl
reached_length g a (suc k) = ap suc (reached_length g (suc a) k)

pub table_tells : (g : Graph) (v : ℕ) → v < nodes g → get_or (reached_table g) v false ≡ is_reachable g v
table_tells g v h = let e : 0 + v ≡ v = omega arith in rw e at (reached_at g 0 (nodes g) v h)

pub none_reached : {g : Graph} {L : Labels} {reached reached' : List Bool} → Exhausted g L → ReachedTold L.births reached reached' →
    length reached ≡ nodes g → reached' ≡ reached_table g
none_reached {g} {reached' = reached'} B M l =
    ext_get_or false reached' (reached_table g) (M.long ∙ l ∙ sym (reached_length g 0 (nodes g)))
    (λ i h. M.told i h ∙ sym (table_reached B i) ∙ sym (table_tells g i (omega (arith, M.long, h))))

pub wanted_front : {g : Graph} {k : ℕ} {p p' : List ℕ} → PathWritten g k p p' → k ≤ length p → is_wanted g (take k p') ≡ true
wanted_front {p = p} W h = let c = W.count in rw (W.written, c, take_sets p W.arcs (omega arith)) W.wanted

-- THE ANSWERS
module _ {F : Type 0} (C : Mut F (Bor lent_labels.Labels × Unit {0}) (Unit {0})) (f f' : F) (g : Graph) (p p' : List ℕ) where
  pub reached_answer : (r : Option ℕ) → (rs rs' : List Bool) → Explored C f f' g r p p' → length rs ≡ nodes g → (f' ≡ f → rs' ≡ rs) →
      ((L : lent_labels.Labels) → CalledAt C f L tt f' → ReachedTold L.birth.now rs rs') → PathOrReached g r p p' rs rs'
  reached_answer None rs rs' E l same told = let N = E.1 in (no_path N.1, E.0, none_reached N.1 (told N.0 N.2) l)
  reached_answer (Some k) rs rs' E l same told = (E.0, same E.1)

  pub class_answer : (r : Option ℕ) → (cs cs' : List ℕ) → Explored C f f' g r p p' → (f' ≡ f → cs' ≡ cs) →
      ((L : lent_labels.Labels) → CalledAt C f L tt f' → cs' ≡ canonical g) → PathOrClasses g r p p' cs cs'
  class_answer None cs cs' E same told = let N = E.1 in (no_path N.1, E.0, told N.0 N.2)
  class_answer (Some k) cs cs' E same told = (E.0, same E.1)

-- THE FRONTS OF NEW TABLES
front_clear : {A : Type 0} (none : A) (n size : ℕ) → n ≤ size → Clear none n (take n (replicate size none))
front_clear none n size h = rw (take-replicate n size none h) (cleared none n)

abbrev front : (mate_pairs : ℕ) → List ℕ
front n = take (2 * n) (replicate 256 0)

pub fronts_blank : {n m : ℕ} {vs : List ℕ} → n ≤ mate_pairs_most → vs ≡ front n → m ≡ 0 →
    Blank n (tables (labels (front n) (front n) (take n (replicate mate_pairs_most 0))) (take (2 * n) (replicate 256 false)) (queue vs m 0) 0)
fronts_blank {n} h e none =
    let zeros = front_clear {A = ℕ} 0 (2 * n) 256 (omega arith) in
    record {
      births_clear = zeros;
      marks_clear = front_clear false (2 * n) 256 (omega arith);
      vias_long = zeros.long;
      bases_long = (front_clear {A = ℕ} 0 n mate_pairs_most h).long;
      queue_long = rw e zeros.long;
      queue_empty = none;
      none_taken = refl;
    }
