-- The answer to a graph, by its cases (document 01, "The graph" and "The barrier").
--   PathWritten g k p p'              k arcs, a wanted path, stand at the front of p'; past them p' is p
--   ReachedTold births rs rs'         rs' has the nodes' flags, by their births
--   reached_from g vs, reached_table g      the flags of the reachable nodes: of some, of all in order
--   Explored C f f' g a p p'          C is what calls of f promise. Some k: it is written, f is as it was. None: p' is p, and f was called, with labels
--                                     that show that there is none
--   PathOrReached g a p p' rs rs'     Some k: it is written, the reached nodes are as they were. None: there is none; rs' is the table of the reachable ones
--   PathOrClasses g a p p' cs cs'     Some k: it is written, the classes are as they were. None: there is none; cs' is the canonical barrier
use Rattle.std.specs.Prelude.{◌≡◌, Bool, true, false, Option, Some, None, List, [], ◌∷◌, ℕ, ◌<◌, ltb, length, get_or}
use Rattle.std.specs.Borrow.{Bor}
use Rattle.std.specs.Fn.{Mut, CalledAt}
use Rattle.std.proofs.lemmas.List.Edits.{sets}
use Rattle.counting.specs.Tests.{below}
use Rattle.skew.specs.Graph.{Graph, nodes, is_wanted, is_reachable, has_path, canonical}
use Rattle.search.specs.Lent.{labels_of}
use Rattle.search.specs.ClassTable.{Exhausted}
use Rattle.search.specs.declared.steps.Labels as lent_labels

pub record PathWritten (g : Graph) (k : ℕ) (before after : List ℕ) : Type 0 where
  pub arcs : List ℕ
  pub wanted : is_wanted g arcs ≡ true
  pub count : k ≡ length arcs
  pub few : k < nodes g
  pub written : after ≡ sets before 0 arcs

-- THE REACHED NODES
pub record ReachedTold (births : List ℕ) (reached reached' : List Bool) : Type 0 where
  pub long : length reached' ≡ length reached
  pub told : (u : ℕ) → u < length reached' → get_or reached' u false ≡ ltb 0 (get_or births u 0)

unfoldable pub reached_from : Graph → (ordered : List ℕ) → List Bool
reached_from g [] = []
reached_from g (v ∷ vs) = is_reachable g v ∷ reached_from g vs

abbrev pub reached_table : Graph → List Bool
reached_table g = reached_from g (below (nodes g))

-- THE ANSWERS
abbrev pub Explored : {F : Type 0} → Mut F (Bor lent_labels.Labels × Unit {0}) (Unit {0}) → (reason reason' : F) → Graph → Option ℕ → (before after : List ℕ) → Type 0
Explored C f f' g (Some k) p p' = PathWritten g k p p' × (f' ≡ f)
Explored C f f' g None p p' = (p' ≡ p) × ((L : lent_labels.Labels) × Exhausted g (labels_of L) × CalledAt C f L tt f')

abbrev pub PathOrReached : Graph → Option ℕ → (before after : List ℕ) → (reached reached' : List Bool) → Type 0
PathOrReached g (Some k) p p' rs rs' = PathWritten g k p p' × (rs' ≡ rs)
PathOrReached g None p p' rs rs' = (has_path g ≡ false) × (p' ≡ p) × (rs' ≡ reached_table g)

abbrev pub PathOrClasses : Graph → Option ℕ → (before after classes classes' : List ℕ) → Type 0
PathOrClasses g (Some k) p p' cs cs' = PathWritten g k p p' × (cs' ≡ cs)
PathOrClasses g None p p' cs cs' = (has_path g ≡ false) × (p' ≡ p) × (cs' ≡ canonical g)
