-- The ascent from a node's bud to the root of its tree of buds, on the tables.
--   tail_at g L b               the tail of b's base arc
--   RootReads g L b             where the loop reads, and the birth number falls
--   RootAscent g L v b          the loop's state: b is a base on the way from v's bud to the root
--   root_ascent_start, _next    from the base of v's bud up, bud by bud
--   root_ascent_end             the tail of the base arc lies in no bud: b is the root
use mathlib.Core.Path.{◌≡◌, sym, ap, subst, ◌∙◌}
use mathlib.Core.Bool.{true, false}
use Prim.Native.Nat.{ℕ, ◌*◌, ◌/◌, ◌<◌}
use native.Mathlib.Omega.{arith}
use lib.ListN.{length, get_or}
use Rattle.formats.specs.Limits.{arcs_most}
use Rattle.skew.specs.Graph.{Graph, mate}
use Rattle.skew.specs.Paths.{tail}
use Rattle.skew.specs.Search.{BaseArc}
use Rattle.skew.specs.Forest.{BudBase, root, root_of}
use Rattle.skew.proofs.Mates.{mate_below}
use Rattle.skew.proofs.Forest.{bud_base, bud_arc, tail_both, root_up, root_stop}
use Rattle.arcs.proofs.Tables.{table_covers}
use Rattle.search.specs.Tables.{Labels, is_reached}
use Rattle.search.specs.ClassTable.{Exhausted, end_state, InBud, RootFound}
use Rattle.search.proofs.States.{base_at, reached_is_node, tail_base}

abbrev tail_at : Graph → Labels → (base : ℕ) → ℕ
tail_at g L b = tail g (get_or L.vias b 0)

pub record RootReads (g : Graph) (L : Labels) (b : ℕ) : Type 0 where
  pub in_vias : b < length L.vias
  pub is_arc : get_or L.vias b 0 < length g.arcs
  pub small : get_or L.vias b 0 < arcs_most
  pub tail_small : tail_at g L b < 256
  pub in_births : mate (tail_at g L b) < length L.births
  pub in_bases : tail_at g L b / 2 < length L.bases
  pub falls : get_or L.births (get_or L.bases (tail_at g L b / 2) 0) 0 < get_or L.births b 0

pub record RootAscent (g : Graph) (L : Labels) (v b : ℕ) : Type 0 where
  pub exhausted : Exhausted g L
  pub base : (B : Exhausted g L) → BudBase (end_state B) b
  pub is : (B : Exhausted g L) → root g (end_state B) b ≡ root_of g (end_state B) v
  pub reads : RootReads g L b

module _ {g : Graph} {L : Labels} (B : Exhausted g L) {b : ℕ} (base : BudBase (end_state B) b) where
  abbrev x : ℕ
  x = tail_at g L b

  arc : BaseArc g (end_state B) b
  arc = bud_arc g (end_state B) B.search.state.invariant B.shut b base

  up_base : (end_state B).base x ≡ get_or L.bases (x / 2) 0
  up_base = tail_base B.search arc.is_arc

  next_base : is_reached L (mate x) ≡ true → BudBase (end_state B) (get_or L.bases (x / 2) 0)
  next_base z =
      let I = B.search.state.invariant in
      subst (BudBase (end_state B)) up_base (bud_base g (end_state B) I x (tail_both g (end_state B) I B.shut b base z))

  reads : RootReads g L b
  reads =
      let S = B.search.state in
      let few = B.search.table.pairs_few in
      let low = reached_is_node S b base.both.reached in
      let x_low = (table_covers B.search.table).tails (get_or L.vias b 0) arc.is_arc in
      record {
        in_vias = omega (arith, S.vias_long);
        is_arc = arc.is_arc;
        small = omega (arith, arc.is_arc, B.search.table.arcs_few);
        tail_small = omega (arith, x_low);
        in_births = omega (arith, mate_below x (2 * g.pairs) (omega arith) x_low, S.births_long);
        in_bases = omega (arith, x_low, S.bases_long);
        falls = rw up_base at arc.base_earlier;
      }

pub root_ascent_start : {g : Graph} {L : Labels} {v : ℕ} → InBud g L v → RootAscent g L v (get_or L.bases (v / 2) 0)
root_ascent_start {g} {L} {v} X =
    let base : (B : Exhausted g L) → BudBase (end_state B) (get_or L.bases (v / 2) 0) =
    λ B.
    subst (BudBase (end_state B)) (base_at B.search.state v X.is_node)
    (bud_base g (end_state B) B.search.state.invariant v (record { reached = X.reached; mate_reached = X.mate_reached })) in
    record {
      exhausted = X.exhausted;
      base = base;
      is = λ B. ap (root g (end_state B)) (sym (base_at B.search.state v X.is_node));
      reads = reads X.exhausted (base X.exhausted);
    }

module _ {g : Graph} {L : Labels} {v b : ℕ} (A : RootAscent g L v b) where
  pub root_ascent_end : is_reached L (mate (tail_at g L b)) ≡ false → RootFound g L v b
  root_ascent_end z =
      record {
        is_node = let B = A.exhausted in reached_is_node B.search.state b (A.base B).both.reached;
        is = λ B. sym (root_stop g (end_state B) B.search.state.invariant B.shut b z) ∙ A.is B;
      }

  pub root_ascent_next : is_reached L (mate (tail_at g L b)) ≡ true → RootAscent g L v (get_or L.bases (tail_at g L b / 2) 0)
  root_ascent_next z =
      record {
        exhausted = A.exhausted;
        base = λ B. next_base B (A.base B) z;
        is = λ B.
            ap (root g (end_state B)) (sym (up_base B (A.base B))) ∙
            sym (root_up g (end_state B) B.search.state.invariant B.shut b (A.base B) z) ∙ A.is B;
        reads = reads A.exhausted (next_base A.exhausted (A.base A.exhausted) z);
      }
