-- The class table, node by node.
--   no_path, table_reached          the end of a search without a path: none exists, and the reached nodes are the reachable ones
--   class_outside, class_X          one node more: outside X, in X
--   numbering_start                 before the first node no part has a number
--   classes_told                    after the last node: the canonical barrier
use mathlib.Core.Path.{◌≡◌, refl, sym, ap, subst, ◌∙◌}
use mathlib.Core.Logic.{⊎_elim}
use mathlib.Core.Bool.{Bool, true, false, ◌&&◌}
use mathlib.Core.List.{List}
use Prim.Native.Nat.{ℕ, zero, suc, ◌+◌, ◌*◌, ◌%◌, ◌<◌}
use native.Mathlib.Numerals.{add-one}
use native.Mathlib.Omega.{arith}
use lib.ListN.{length, get_or, set, length-set, replicate}
use lib.Seq.{get_or-set_same, get_or-set_other, ext_get_or}
use borrow.Author.Tests.{eqb-true, eq-eqb}
use Rattle.counting.specs.Tests.{pick, up_from}
use Rattle.counting.specs.Lists.{In, Distinct}
use Rattle.counting.proofs.Booleans.{true_false, same_or}
use Rattle.counting.proofs.Numbering.{number_le, number_lt, number_suc, number_zero}
use Rattle.skew.specs.Graph.{Graph, mate, is_reachable, has_path, x_nodes, part_of, least_of, is_first, part_number, class_of, classes_from, canonical}
use Rattle.skew.specs.Search.{State, Invariant}
use Rattle.skew.specs.Paths.{WellFormed}
use Rattle.skew.specs.Forest.{BothReached, root, root_of}
use Rattle.skew.proofs.Mates.{mate_is, mate_mate}
use Rattle.skew.proofs.Exact.{reachable_is}
use Rattle.skew.proofs.Canonical.{both_x_node, x_node_both, x_nodes_distinct, part_least_both, part_least_min, part_number_same}
use Rattle.std.specs.Prelude.{Option, Some, None}
use Rattle.search.specs.Tables.{Labels, is_reached}
use Rattle.search.specs.declared.classes.Parts.{Parts}
use Rattle.search.specs.ClassTable.{Exhausted, end_state, RootFound, firsts_before, NumberTold, Numbering}
use Rattle.search.proofs.States.{cleared}

-- THE END OF A SEARCH
module _ {g : Graph} {L : Labels} (B : Exhausted g L) where
  abbrev st : State
  st = end_state B

  well_formed : WellFormed g
  well_formed = B.search.table.well_formed

  invariant : Invariant g st
  invariant = B.search.state.invariant

  distinct : Distinct (x_nodes g)
  distinct = x_nodes_distinct g well_formed st invariant B.closed B.shut

  both_in : (v : ℕ) → BothReached st v → In v (x_nodes g)
  both_in v b = both_x_node g well_formed st invariant B.closed B.shut v b

  in_both : (v : ℕ) → In v (x_nodes g) → BothReached st v
  in_both v m = x_node_both g well_formed st invariant B.closed B.shut v m

  pub table_reached : (v : ℕ) → is_reachable g v ≡ is_reached L v
  table_reached v = reachable_is g well_formed st invariant B.closed B.shut v

  pub no_path : has_path g ≡ false
  no_path = table_reached (mate g.source) ∙ B.shut

  same_part : (u v : ℕ) → BothReached st u → BothReached st v → root_of g st u ≡ root_of g st v → part_number g u ≡ part_number g v
  same_part u v b c e = part_number_same g well_formed st invariant B.closed B.shut u v b c e

  -- counts of first nodes
  firsts_same : (v : ℕ) → (In v (x_nodes g) → is_first g v ≡ true → ⊥) → firsts_before g (v + 1) ≡ firsts_before g v
  firsts_same v no_first =
      rw (add-one v)
      (⊎_elim (λ h. omega (arith, number_le (x_nodes g) distinct (is_first g) v (suc v) (omega arith))) (λ h. absurd (no_first h.0 h.1))
      (number_suc (x_nodes g) distinct (is_first g) v))

  firsts_more : (v : ℕ) → In v (x_nodes g) → is_first g v ≡ true → firsts_before g (v + 1) ≡ 1 + firsts_before g v
  firsts_more v m f =
      let less = number_lt (x_nodes g) distinct (is_first g) v (suc v) (omega arith) m f in
      rw (add-one v) (⊎_elim (λ h. absurd (omega arith)) (λ h. omega (arith, h.2)) (number_suc (x_nodes g) distinct (is_first g) v))

  -- a node of whose part none is below it is its part's first
  is_first_lem : (v : ℕ) → BothReached st v → ((u : ℕ) → u < v → BothReached st u → root_of g st u ≡ root_of g st v → ⊥) → least_of v (part_of g v) ≡ v
  is_first_lem v b none =
      let l = part_least_both g well_formed st invariant B.closed B.shut v b in
      let m = part_least_min g well_formed st invariant B.closed B.shut v v b b refl in
      ⊎_elim (λ q. q) (λ q. absurd (none (least_of v (part_of g v)) (omega (arith, q)) l.0 l.1)) (same_or (least_of v (part_of g v)) v)

  not_first : (v u : ℕ) → BothReached st v → BothReached st u → u < v → root_of g st u ≡ root_of g st v → is_first g v ≡ true → ⊥
  not_first v u b c h e f =
      let m = part_least_min g well_formed st invariant B.closed B.shut v u b c e in
      omega (arith, eqb-true (least_of v (part_of g v)) v f)

-- ONE NODE MORE
module _ {g : Graph} {L : Labels} {v : ℕ} {P : Parts} (N : Numbering g L v P) (l : v < length L.births) where
  abbrev B : Exhausted g L
  B = N.exhausted

  class_is : (c : ℕ) →
      pick (is_reached L v && is_reached L (mate v)) (3 + part_number g v) (pick (is_reached L v) 1 (pick (is_reached L (mate v)) 2 0)) ≡ c →
      c ≡ class_of g v
  class_is c e = sym (rw (table_reached B v, table_reached B (mate v)) e)

  -- outside X
  aside : (BothReached (end_state B) v → ⊥) → Numbering g L (v + 1) P
  aside out =
      record {
        exhausted = B;
        long = N.long;
        numbered = λ u k b. N.numbered u (below_v u k b) b;
        known = λ t n k. let r = N.known t n k in (r.0, omega (arith, r.1), r.2, r.3);
        count = N.count ∙ ap (λ (x : ℕ). 3 + x) (sym (firsts_same B v (λ i f. out (in_both B v i))));
        next_few = omega (arith, N.next_few);
      }
    where
      below_v : (u : ℕ) → u < v + 1 → BothReached (end_state B) u → u < v
      below_v u k b = ⊎_elim (λ (q : u ≡ v). absurd (out (subst (BothReached (end_state B)) q b))) (λ j. omega (arith, j)) (same_or u v)

  pub class_outside : {a b : Bool} → a ≡ is_reached L v → b ≡ is_reached L (mate v) → (a && b) ≡ false →
      Numbering g L (v + 1) P × (pick a 1 (pick b 2 0) ≡ class_of g v)
  class_outside {a} {b} x y e =
      (aside (λ k. true_false (rw (x, y, k.reached, k.mate_reached)) e), class_is (pick a 1 (pick b 2 0)) (rw (← x, ← y, e)))

  -- in X
  module _ (x : true ≡ is_reached L v) (y : true ≡ is_reached L (mate v)) {t : ℕ} (F : RootFound g L v t) where
    both : BothReached (end_state B) v
    both = record { reached = sym x; mate_reached = sym y }

    x_class : (c : ℕ) → c ≡ 3 + part_number g v → c ≡ class_of g v
    x_class c e = class_is c (rw (← x, ← y) (sym e))

    te : t ≡ root_of g (end_state B) v
    te = F.is B

    -- its part has a number
    old : (n : ℕ) → get_or P.numbers t None ≡ Some n → Numbering g L (v + 1) P × (n ≡ class_of g v)
    old n k =
        let r = N.known t n k in
        let u = r.0 in
        let e : root_of g (end_state B) u ≡ root_of g (end_state B) v = r.3 ∙ te in
        let c : get_or P.numbers t None ≡ Some (3 + part_number g v) =
        ap (λ (x : ℕ). get_or P.numbers x None) (sym r.3) ∙ N.numbered u r.1 r.2 ∙ ap (λ (x : ℕ). Some (3 + x)) (same_part B u v r.2 both e) in
        let is : n ≡ 3 + part_number g v = cc in (
          record {
            exhausted = B;
            long = N.long;
            numbered = λ w i d.
                ⊎_elim (λ (q : w ≡ v). rw q (ap (λ (x : ℕ). get_or P.numbers x None) (sym te) ∙ c)) (λ j. N.numbered w (omega (arith, j)) d)
                (same_or w v);
            known = λ x m y. let z = N.known x m y in (z.0, omega (arith, z.1), z.2, z.3);
            count = N.count ∙ ap (λ (x : ℕ). 3 + x) (sym (firsts_same B v (λ i f. not_first B v u both r.2 r.1 e f)));
            next_few = omega (arith, N.next_few);
          },
          x_class n is,
        )

    abbrev NoneBelow : Type 0
    NoneBelow = (u : ℕ) → u < v → BothReached (end_state B) u → root_of g (end_state B) u ≡ root_of g (end_state B) v → ⊥

    -- the first node of a part is even
    even_first : NoneBelow → v % 2 ≡ 0
    even_first none =
        ⊎_elim (λ q. q)
        (λ q.
        absurd
        (none (mate v) (omega (arith, mate_is v, q)) (record { reached = sym y; mate_reached = rw (mate_mate v) (sym x) })
        (ap (root g (end_state B)) (B.search.state.invariant.base_mate v)))) (same_or (v % 2) 0)

    -- its part has none yet
    new : (P' : Parts) → get_or P.numbers t None ≡ None → P'.numbers ≡ set P.numbers t (Some P.next) → P'.next ≡ P.next + 1 →
        Numbering g L (v + 1) P' × (P.next ≡ class_of g v)
    new P' k en ex =
        let none : NoneBelow =
        λ u i d e.
        let z : get_or P.numbers t None ≡ Some (3 + part_number g u) = ap (λ (x : ℕ). get_or P.numbers x None) (te ∙ sym e) ∙ N.numbered u i d in cc in
        let f = is_first_lem B v both none in
        let c : P.next ≡ 3 + part_number g v = N.count ∙ ap (λ (x : ℕ). 3 + firsts_before g x) (sym f) in
        let even = even_first none in
        let same : get_or (set P.numbers t (Some P.next)) t None ≡ Some P.next = get_or-set_same P.numbers t (Some P.next) None (omega (arith, F.is_node, N.long)) in (
          record {
            exhausted = B;
            long = rw en (omega (arith, length-set P.numbers t (Some P.next), N.long));
            numbered = λ w i d.
                rw en
                (⊎_elim (λ (q : w ≡ v). rw q (ap (λ (x : ℕ). get_or (set P.numbers t (Some P.next)) x None) (sym te) ∙ same ∙ ap (λ (x : ℕ). Some x) c))
                (λ j.
                get_or-set_other P.numbers t (root_of g (end_state B) w) (Some P.next) None (λ q. none w (omega (arith, j)) d (q ∙ te)) ∙
                N.numbered w (omega (arith, j)) d) (same_or w v));
            known = λ x m y.
                ⊎_elim (λ (q : x ≡ t). (v, omega arith, both, sym (q ∙ te)))
                (λ j.
                let z = N.known x m (sym (get_or-set_other P.numbers t x (Some P.next) None j) ∙ rw en at y) in (z.0, omega (arith, z.1), z.2, z.3))
                (same_or x t);
            count = omega (arith, ex, N.count, firsts_more B v (both_in B v both) (eq-eqb (least_of v (part_of g v)) v f));
            next_few = omega (arith, ex, N.next_few);
          },
          x_class P.next c,
        )

    told : (found : Option ℕ) → get_or P.numbers t None ≡ found → (P' : Parts) (c : ℕ) → NumberTold found P t P' c →
        Numbering g L (v + 1) P' × (c ≡ class_of g v)
    told (Some n) k P' c T = let o = old n k in rw (T.0, T.1) o
    told None k P' c T = let o = new P' k T.0 T.1 in rw T.2 o

    pub class_X : {P' : Parts} {c : ℕ} → NumberTold (get_or P.numbers t None) P t P' c → Numbering g L (v + 1) P' × (c ≡ class_of g v)
    class_X {P'} {c} T = told _ refl P' c T

-- THE START AND THE END
pub numbering_start : {g : Graph} {L : Labels} → Exhausted g L → Numbering g L 0 (record { numbers = replicate 256 None; next = 3 })
numbering_start {g} B =
    let Z = cleared {A = Option ℕ} None 256 in
    record {
      exhausted = B;
      long = omega (arith, Z.long, B.search.table.pairs_few);
      numbered = λ u l b. absurd (omega arith);
      known = λ t n k. let z = Z.each t in cc;
      count = omega (arith, number_zero (x_nodes g) (distinct B) (is_first g));
      next_few = omega arith;
    }

from_at : (g : Graph) (a k i : ℕ) → i < k → get_or (classes_from g (up_from a k)) i 0 ≡ class_of g (a + i)
unfolding classes_from up_from
from_at g a zero i l = absurd (omega arith)
from_at g a (suc k) zero l = let e : a + 0 ≡ a = omega arith in rw e
from_at g a (suc k) (suc i) l = let e : a + suc i ≡ suc a + i = omega arith in rw e (from_at g (suc a) k i (omega arith))

from_length : (g : Graph) (a k : ℕ) → length (classes_from g (up_from a k)) ≡ k
unfolding classes_from up_from
from_length g a zero = refl
from_length g a (suc k) = ap suc (from_length g (suc a) k)

pub classes_told : {g : Graph} {L : Labels} {classes : List ℕ} → Exhausted g L → length classes ≡ length L.births →
    ((u : ℕ) → u < length classes → get_or classes u 0 ≡ class_of g u) → classes ≡ canonical g
classes_told {g} {classes = classes} B h told =
    let long = B.search.state.births_long in
    ext_get_or 0 classes (canonical g) (h ∙ long ∙ sym (from_length g 0 (2 * g.pairs)))
    (λ i l.
    let e : 0 + i ≡ i = omega arith in
    told i l ∙ sym (rw e at (from_at g 0 (2 * g.pairs) i (omega (arith, h)))))
