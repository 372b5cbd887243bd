-- The doubled table of a row as a search sees it, and what each of the search's answers gives.
--   arc_table                       the table lent is an arc table
--   path_few                        an answer that is a path fits in its table, and has an arc
--   path_rotates, path_stepped      it can be followed, and gives one pair more
--   none_stepped                    no path: the reachable nodes are told
use Rattle.std.proofs.Common.{◌≡◌, refl, sym, ap, subst, ◌∙◌, Bool, true, false, None, List, [], ◌∷◌, ℕ, suc, ◌+◌, ◌-◌, ◌*◌, ◌≤◌, ◌<◌, eqb, length, take, drop, arith, add-one}
use Rattle.std.proofs.lemmas.List.{drop-take}
use Rattle.std.proofs.Math.Seq.{length-sets}
use borrow.Author.Tests.{eqb-true}
use Rattle.counting.specs.declared.Pair.{Pair}
use Rattle.counting.proofs.Booleans.{and_right, true_false}
use Rattle.skew.specs.Graph.{Graph, mate, end_of, is_regular, is_wanted, is_reachable, has_path}
use Rattle.skew.specs.declared.Arc.{Arc}
use Rattle.skew.proofs.Mates.{mate_other}
use Rattle.arcs.specs.Table.{graph, ArcTable}
use Rattle.search.specs.Answer.{PathOrReached, PathWritten}
use Rattle.search.proofs.Answers.{table_tells, wanted_front}
use Rattle.matching.specs.Stock.{Stock}
use Rattle.matching.specs.Rotation.{rotate_along, Rotates, Augments}
use Rattle.matching.specs.Row.{partner_in}
use Rattle.matching.specs.Flags.{is_flagged}
use Rattle.matching.specs.DoubledTable.{doubled_table}
use Rattle.matching.proofs.DoubledTable.{table_size, table_well_formed}
use Rattle.matching.proofs.Augmentation.{wanted_augments}
use Rattle.pairing.specs.Table.{StockTable, PairedFits}
use Rattle.pairing.specs.Row.{row_graph}
use Rattle.pairing.specs.Plan.{NoPathLeft, Stepped}
use Rattle.pairing.proofs.DoubledTables.{paired_fits}

-- the source is not its own mate
some_arc : (g : Graph) (xs : List ℕ) → is_wanted g xs ≡ true → 0 < length xs
unfolding end_of
some_arc g [] h =
    let v = g.source in absurd (mate_other v (sym (eqb-true v (mate v) (and_right (is_regular g []) (eqb v (mate v)) h))))
some_arc g (x ∷ xs) h = omega arith

-- the arcs that are read back are those of the doubled table
module _ {row : List ℕ} {s : Stock} {arcs : List Arc} (T : StockTable s) (P : PairedFits row s) (D : arcs ≡ (doubled_table (length row) s.fits (partner_in row)).arcs) where
  abbrev fs : List Pair
  fs = s.fits

  abbrev n : ℕ
  n = length row

  abbrev p : ℕ → ℕ
  p = partner_in row

  -- as the code counts the pairs of nodes
  abbrev g : Graph
  g = graph (n + 1) (2 * n) arcs

  told : row_graph row arcs ≡ doubled_table n fs p
  told = ap (row_graph row) D

  same : g ≡ doubled_table n fs p
  same = rw (add-one n) told

  pub arc_table : ArcTable g
  arc_table =
      record {
        well_formed = rw same (table_well_formed n fs (paired_fits T P) p P.matching);
        pairs_few = omega (arith, P.long, T.cameras_few);
        arcs_few = rw D (omega (arith, table_size n fs p, P.long, T.cameras_few, T.fits_few));
      }

  module _ {path path' : List ℕ} {k : ℕ} (long : 256 ≤ length path) (W : PathWritten g k path path') where
    wanted : is_wanted g (take k path') ≡ true
    wanted = wanted_front W (omega (arith, W.few, P.long, T.cameras_few))

    pub path_few : (0 < k) × (k ≤ length path')
    path_few =
        (omega (arith, W.count, some_arc g W.arcs W.wanted), rw W.written (simp length-sets (omega (arith, W.few, P.long, T.cameras_few))))

    abbrev turns : List ℕ
    turns = take (k - 1) (drop 1 path')

    same_turns : drop 1 (take k path') ≡ turns
    same_turns = let e : k ≡ 1 + (k - 1) = omega (arith, path_few) in ap (λ (m : ℕ). drop 1 (take m path')) e ∙ drop-take 1 (k - 1) path'

    followed : Rotates n (doubled_table n fs p) turns p × Augments n fs p (rotate_along (doubled_table n fs p) turns p)
    followed = rw same_turns at (wanted_augments n fs (paired_fits T P) p P.matching (take k path') (rw same at wanted))

    pub path_rotates : Rotates n (row_graph row arcs) turns p
    path_rotates = rw told followed.0

    pub path_stepped : {row' : List ℕ} {reached : List Bool} → partner_in row' ≡ rotate_along (row_graph row arcs) turns p → Stepped fs row row' reached true
    path_stepped e = record { more = λ t. rw (e, told) followed.1; none = λ t. true_false refl t }

  pub none_stepped : {path path' : List ℕ} (reached : List Bool) {reached' : List Bool} → PathOrReached g None path path' reached reached' → Stepped fs row row reached' false
  none_stepped reached {reached'} N =
      let tells : (v : ℕ) → v < 2 * suc n → is_flagged reached' v ≡ is_reachable g v = λ v l. rw N.2 (table_tells g v (omega arith)) in
      let none : NoPathLeft fs row reached' =
      record {
        no_path = subst (λ (h : Graph). has_path h ≡ false) same N.0;
        tells = subst (λ (h : Graph). (v : ℕ) → v < 2 * suc n → is_flagged reached' v ≡ is_reachable h v) same tells;
      } in
      record { more = λ t. true_false t refl; none = λ t. (refl, none) }
