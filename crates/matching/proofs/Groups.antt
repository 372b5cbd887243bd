-- The doubled table of p without a path: each Xi of its canonical barrier is entered over an arc to a node 2r, never to a node 2k+1; camera r represents
-- the cameras of Xi.
--   camera_classes                   the classes of a camera's two nodes
--   no_odd_entry                     no entry leads to a node 2k+1
--   group, group_self, group_same    a camera's representative: itself for 2k in A, else where the entry of its Xi leads
--   group_entry                      an entry to 2r makes r the representative
--   Entered, entered                 the entry of a camera's Xi
use mathlib.Core.Path.{◌≡◌, sym, ap, subst, ◌∙◌}
use mathlib.Core.Logic.{◌≢◌}
use mathlib.Core.Bool.{true, false}
use mathlib.Core.List.{List}
use Prim.Native.Nat.{ℕ, ◌+◌, ◌*◌, ◌/◌, ◌≤◌, ◌<◌}
use native.Mathlib.Omega.{arith}
use lib.Dec.{leb}
use borrow.Author.Tests.{le-leb}
use Rattle.counting.specs.Tests.{pick}
use Rattle.counting.specs.Lists.{In}
use Rattle.counting.specs.declared.Pair.{Pair}
use Rattle.skew.specs.Graph.{Graph, nodes, arc_at, nodes_along, is_reachable, has_path, class_at, canonical}
use Rattle.skew.specs.Paths.{head, WellFormed}
use Rattle.skew.specs.Barrier.{Barrier}
use Rattle.skew.proofs.Paths.{joins_end, arc_ends}
use Rattle.skew.proofs.AlongPaths.{reachable_path, met_once}
use Rattle.skew.proofs.Entries.{canonical_barrier_of, Classes, both, outer, inner, none, classes_of, Entry, entry_one, find_entry, find_entry_lem, path_entry}
use Rattle.matching.specs.Matching.{FitsBelow, Matching}
use Rattle.matching.specs.DoubledTable.{doubled_table, ArcKind, from_source, to_mate, lit_fit, other_fit}
use Rattle.matching.proofs.DoubledTable.{mate_even, arc_kind, table_well_formed}
use Rattle.matching.proofs.OneArcIn.{one_arc_in}

module _ (n : ℕ) (fs : List Pair) (F : FitsBelow n fs) (p : ℕ → ℕ) (M : Matching fs p) (no_path : has_path (doubled_table n fs p) ≡ false) where
  abbrev g : Graph
  g = doubled_table n fs p

  abbrev W : WellFormed g
  W = table_well_formed n fs F p M

  abbrev class : ℕ → ℕ
  class v = class_at (canonical g) v

  abbrev B : Barrier g (canonical g)
  B = canonical_barrier_of g W no_path

  abbrev pub EntryTo : (arc class : ℕ) → Type 0
  EntryTo i c = Entry g W no_path i c

  abbrev pub Camera : (camera : ℕ) → Type 0
  Camera k = Classes g W no_path (2 * k) (2 * k + 1)

  pub camera_classes : (k : ℕ) → k ≤ n → Camera k
  camera_classes k h = subst (λ (w : ℕ). Classes g W no_path (2 * k) w) (mate_even k) (classes_of g W no_path (2 * k) (omega arith))

  -- a regular path to 2k would go over the entry, leave 2k+1 by its only arc and need that arc's mate to come to 2k
  pub no_odd_entry : (i c k : ℕ) → EntryTo i c → head g i ≡ 2 * k + 1 → ⊥
  no_odd_entry i c k E e =
      let low : 2 * k + 1 < nodes g = subst (λ (z : ℕ). z < nodes g) e (W.head_node i E.is_arc) in
      let h : class (2 * k + 1) ≡ c = ap class (sym e) ∙ E.into_X in
      let m = E.is_X in
      go h m (camera_classes k (omega arith))
    where
      go : class (2 * k + 1) ≡ c → 3 ≤ c → Camera k → ⊥
      go h m (outer s t a b) = omega arith
      go h m (inner s t a b) = omega arith
      go h m (none s t a b) = omega arith
      go h m (both s t a b) =
          let P = reachable_path g W (2 * k) s in
          let q = P.0 in
          let j = P.1.joins in
          let r = path_entry g W no_path (2 * k) q P.1 a in
          let same : r.0 ≡ i = entry_one g W no_path r.0 i c (subst (λ (z : ℕ). EntryTo r.0 z) (sym b ∙ h) r.2) E in
          let there : In (2 * k + 1) (nodes_along g g.source q) =
          subst (λ (z : ℕ). In z (nodes_along g g.source q)) (ap (λ (z : ℕ). head g z) same ∙ e)
          (arc_ends g g.source (2 * k) q j r.0 r.1).2 in
          let st = B.source_class in
          let ns : 2 * k ≢ g.source = λ z. let w : class (2 * k) ≡ class g.source = ap class z in omega arith in
          met_once g W (2 * k) (one_arc_in n fs p M k) ns (2 * k) q P.1 (joins_end g g.source (2 * k) q j)
          (subst (λ (z : ℕ). In z (nodes_along g g.source q)) (sym (mate_even k)) there) (λ z. omega (arith, mate_even k))

  -- REPRESENTATIVES
  pub group : ℕ → ℕ
  group k = pick (leb 3 (class (2 * k))) (head g (find_entry g W no_path (class (2 * k))) / 2) k

  pub group_self : (k : ℕ) → class (2 * k) ≡ 1 → group k ≡ k
  unfolding group
  group_self k e = rw e

  pub group_entry : (k r i : ℕ) → EntryTo i (class (2 * k)) → head g i ≡ 2 * r → group k ≡ r
  unfolding group
  group_entry k r i E e =
      let c = class (2 * k) in
      let w : head g (find_entry g W no_path c) ≡ 2 * r = ap (λ (z : ℕ). head g z) (find_entry_lem g W no_path i c E) ∙ e in
      rw (le-leb 3 c E.is_X) (omega arith)

  pub group_same : (k l : ℕ) → 3 ≤ class (2 * k) → class (2 * k) ≡ class (2 * l) → group k ≡ group l
  unfolding group
  group_same k l h e =
      rw (le-leb 3 (class (2 * k)) h, le-leb 3 (class (2 * l)) (omega arith)) (ap (λ (z : ℕ). head g (find_entry g W no_path z) / 2) e)

  pub record Entered (k : ℕ) : Type 0 where
    pub arc : ℕ
    pub camera : ℕ
    pub low : camera < n
    pub entry : EntryTo arc (class (2 * k))
    pub leads : head g arc ≡ 2 * camera

  pub entered : (k : ℕ) → is_reachable g (2 * k) ≡ true → 3 ≤ class (2 * k) → Entered k
  entered k e h =
      let P = reachable_path g W (2 * k) e in
      let r = path_entry g W no_path (2 * k) P.0 P.1 h in
      go r.0 r.2 (arc_kind n fs F p M r.0 r.2.is_arc)
    where
      go : (i : ℕ) → EntryTo i (class (2 * k)) → ArcKind n fs p (arc_at g i) → Entered k
      go i E (from_source r l q a b) = record { arc = i; camera = r; low = l; entry = E; leads = b }
      go i E (to_mate r l q a b) = absurd (no_odd_entry i (class (2 * k)) n E b)
      go i E (lit_fit r l pl q a b) = record { arc = i; camera = p r; low = pl; entry = E; leads = b }
      go i E (other_fit u v f q a b) = absurd (no_odd_entry i (class (2 * k)) v E b)
