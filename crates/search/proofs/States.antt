-- The tables as a state: what is read off them.
--   not_reached                        a node without a birth is not reached
--   reached_is, unreached_is           the other way round, and where it is reached
--   base_at, reached_is_node           a node's base; reached nodes are nodes
--   cleared                            a table filled with one value is clear
--   ArcBounds, arc_bounds              an arc's number and ends, and the tables' lengths
--   tail_base, head_base               the bases of its ends
--   arc_within                         where what is done with an arc reads
use mathlib.Core.Path.{◌≡◌}
use mathlib.Core.Bool.{true, false}
use Prim.Native.Nat.{ℕ, ◌*◌, ◌-◌, ◌/◌, ◌%◌, ◌≤◌, ◌<◌}
use native.Mathlib.Omega.{arith}
use lib.Dec.{ltb}
use lib.ListN.{length, get_or, get_or-eq_default, replicate, length-replicate, get_or-replicate}
use borrow.Author.Tests.{ltb-true, ltb-false, le-ltb}
use Rattle.formats.specs.Limits.{arcs_most, mate_pairs_most}
use Rattle.counting.proofs.Booleans.{by_test, true_false}
use Rattle.counting.proofs.Membership.{get_d_default}
use Rattle.skew.specs.Graph.{Graph, nodes}
use Rattle.skew.specs.Paths.{tail, head}
use Rattle.arcs.proofs.Tables.{table_covers}
use Rattle.search.specs.Tables.{Labels}
use Rattle.search.specs.State.{state_in, StateHeld, SearchHeld, Clear}
use Rattle.search.specs.Queue.{ArcWithin}

pub not_reached : (birth : ℕ) → birth ≡ 0 → ltb 0 birth ≡ false
not_reached b q = le-ltb 0 b (omega arith)

pub reached_is : (birth : ℕ) → ltb 0 birth ≡ true → 0 < birth
reached_is b q = ltb-true 0 b q

pub unreached_is : (birth : ℕ) → ltb 0 birth ≡ false → birth ≡ 0
unreached_is b q = omega (arith, ltb-false 0 b q)

module _ {g : Graph} {L : Labels} {k : ℕ} (H : StateHeld g L k) where
  pub base_at : (v : ℕ) → v < nodes g → (state_in L k).base v ≡ get_or L.bases (v / 2) 0
  base_at v h = get_d_default L.bases (v / 2) (v - v % 2) 0 (omega (arith, H.bases_long))

  pub reached_is_node : (v : ℕ) → (state_in L k).reached v ≡ true → v < nodes g
  reached_is_node v l =
      by_test (ltb v (length L.births)) (λ t. omega (arith, H.births_long, ltb-true v (length L.births) t))
      (λ t. true_false l (not_reached (get_or L.births v 0) (get_or-eq_default L.births 0 (ltb-false v (length L.births) t))))

pub cleared : {A : Type 0} (none : A) (n : ℕ) → Clear none n (replicate n none)
cleared none n =
    record {
      long = length-replicate n none;
      each = λ u.
          by_test (ltb u n) (λ t. get_or-replicate n u none none (ltb-true u n t))
          (λ t. get_or-eq_default (replicate n none) none (omega (arith, length-replicate n none, ltb-false u n t)));
    }

-- AN ARC'S BOUNDS
pub record ArcBounds (g : Graph) (L : Labels) (i : ℕ) : Type 0 where
  pub small : i < arcs_most
  pub tail_low : tail g i < 2 * g.pairs
  pub head_low : head g i < 2 * g.pairs
  pub pairs_few : g.pairs ≤ mate_pairs_most
  pub births_long : length L.births ≡ 2 * g.pairs
  pub vias_long : length L.vias ≡ 2 * g.pairs
  pub bases_long : length L.bases ≡ g.pairs

module _ {g : Graph} {L : Labels} {k i : ℕ} (S : SearchHeld g L k) (is_arc : i < length g.arcs) where
  pub arc_bounds : ArcBounds g L i
  arc_bounds =
      let C = table_covers S.table in
      record {
        small = omega (arith, S.table.arcs_few);
        tail_low = C.tails i is_arc;
        head_low = C.heads i is_arc;
        pairs_few = S.table.pairs_few;
        births_long = S.state.births_long;
        vias_long = S.state.vias_long;
        bases_long = S.state.bases_long;
      }

  pub tail_base : (state_in L k).base (tail g i) ≡ get_or L.bases (tail g i / 2) 0
  tail_base = base_at S.state (tail g i) arc_bounds.tail_low

  pub head_base : (state_in L k).base (head g i) ≡ get_or L.bases (head g i / 2) 0
  head_base = base_at S.state (head g i) arc_bounds.head_low

  pub arc_within : ArcWithin g L i
  arc_within =
      let B = arc_bounds in
      record {
        is_arc = is_arc;
        small = B.small;
        head_in_births = omega (arith, B.births_long, B.head_low);
        tail_in_bases = omega (arith, B.bases_long, B.tail_low);
        head_in_bases = omega (arith, B.bases_long, B.head_low);
        tail_in_vias = omega (arith, S.state.base_node (tail g i / 2) (omega (arith, B.tail_low)), B.vias_long);
        head_in_vias = omega (arith, S.state.base_node (head g i / 2) (omega (arith, B.head_low)), B.vias_long);
      }
