-- Barriers as a type (document 000, section 2.1; document 01, "The barrier"): what `is_barrier` tests. Classes: 0 M, 1 A, 2 A', 3 and on the Xi.
--   classes_fit a b        an arc may lead from class a to class b
--   is_entry cs c x        the arc x leads from A into class c
--   Barrier g cs           the classes cs are a barrier of g
--   EntryArc g cs i c      arc i leads from A into class c, an Xi
--   NodeClass g v          a node's canonical class, by whether it and its mate are reachable
use Rattle.std.specs.Prelude.{◌≡◌, Bool, true, false, ◌&&◌, ◌||◌, not, List, ℕ, ◌+◌, ◌≤◌, ◌<◌, eqb, length}
use Rattle.skew.specs.Graph.{Graph, mate, nodes, is_reachable, class_at, largest_of, mate_class, entries_into, isXM, part_number, class_of}
use Rattle.skew.specs.declared.Arc.{Arc}
use Rattle.skew.specs.Paths.{tail, head}

abbrev pub classes_fit : (from to : ℕ) → Bool
classes_fit a b = not (isXM a && isXM b && not (eqb a b)) && not (eqb a 1 && (eqb b 2 || eqb b 0))

abbrev pub is_entry : (classes : List ℕ) → (class : ℕ) → Arc → Bool
is_entry cs c x = eqb (class_at cs x.tail) 1 && eqb (class_at cs x.head) c

-- document 000's (B2), (B3) and (B4), (B6) to (B8), (B5); (B1) as a node has one class
pub record Barrier (g : Graph) (cs : List ℕ) : Type 0 where
  pub source_class : class_at cs g.source ≡ 1
  pub mate_class_lem : (v : ℕ) → v < nodes g → class_at cs (mate v) ≡ mate_class (class_at cs v)
  pub arc_fits_lem : (i : ℕ) → i < length g.arcs → classes_fit (class_at cs (tail g i)) (class_at cs (head g i)) ≡ true
  pub one_entry : (c : ℕ) → 3 ≤ c → c ≤ largest_of cs → entries_into cs c g.arcs ≡ 1

pub record EntryArc (g : Graph) (cs : List ℕ) (i c : ℕ) : Type 0 where
  pub is_arc : i < length g.arcs
  pub is_X : 3 ≤ c
  pub from_A : class_at cs (tail g i) ≡ 1
  pub into_X : class_at cs (head g i) ≡ c

pub data NodeClass (g : Graph) (v : ℕ) : Type 0 where
  in_X : is_reachable g v ≡ true → is_reachable g (mate v) ≡ true → class_of g v ≡ 3 + part_number g v → NodeClass g v
  in_A : is_reachable g v ≡ true → is_reachable g (mate v) ≡ false → class_of g v ≡ 1 → NodeClass g v
  in_A' : is_reachable g v ≡ false → is_reachable g (mate v) ≡ true → class_of g v ≡ 2 → NodeClass g v
  in_M : is_reachable g v ≡ false → is_reachable g (mate v) ≡ false → class_of g v ≡ 0 → NodeClass g v
