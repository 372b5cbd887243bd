-- A run of arcs judged arc by arc.
--   wanted_from_lem                is_wanted, arc by arc from the source
--   marks_none, marks_more         tables of marks: empty, and with one number more
--   walking_start, _next           the loop that judges
--   walking_end                    no arc is left
--   walking_listed, _few           the next arc is one of the table; so few are there
--   walking_apart, _seen, _used    an arc that starts elsewhere than the last one ended, leads to a node seen, has its mate used
use Rattle.std.proofs.Common.{◌≡◌, ◌≢◌, refl, ◌∙◌, Bool, true, false, ◌&&◌, not, List, [], ◌∷◌, ℕ, zero, suc, ◌+◌, ◌≤◌, ◌<◌, arith, add-one, length, get_or, drop, set, replicate, length-set, drop-cons, get_or-set_same, get_or-set_other, eqb}
use Rattle.std.proofs.lemmas.List.{length-replicate}
use mathlib.Core.Logic.{⊎_elim}
use lib.ListN.{drop_of_length-le}
use borrow.Author.Tests.{eqb-true, eq-eqb, ne_eqb, ltb-true, lt-ltb}
use Rattle.formats.specs.Limits.{arcs_most}
use Rattle.counting.specs.Tests.{among}
use Rattle.counting.proofs.Booleans.{and_two, and_five, and_both, test_same, same_or}
use Rattle.counting.proofs.Membership.{not_among_out, out_not_among}
use Rattle.skew.specs.Graph.{Graph, no_arc, mate, end_of, is_regular, is_wanted}
use Rattle.skew.specs.declared.Arc.{Arc}
use Rattle.skew.specs.Paths.{tail, head}
use Rattle.skew.proofs.Mates.{mate_below}
use Rattle.skew.proofs.Reachable.{Tried, tried_regular, regular_tried}
use Rattle.arcs.specs.Table.{graph}
use Rattle.judging.specs.Walks.{wanted_from, PathLent, Marks, Walking}

-- ARC BY ARC
module _ (g : Graph) where
  wanted_tried : (v : ℕ) (ss us is : List ℕ) → wanted_from g v ss us is ≡ true → Tried g v (mate g.source) ss us is
  unfolding wanted_from
  wanted_tried v ss us [] e = eqb-true v (mate g.source) e
  wanted_tried v ss us (i ∷ is) e =
      let r = and_five _ _ _ _ _ e in (
        ltb-true i (length g.arcs) r.0,
        eqb-true (tail g i) v r.1,
        not_among_out (head g i) ss r.2,
        not_among_out (mate i) us r.3,
        wanted_tried (head g i) (head g i ∷ ss) (i ∷ us) is r.4,
      )

  tried_wanted : (v : ℕ) (ss us is : List ℕ) → Tried g v (mate g.source) ss us is → wanted_from g v ss us is ≡ true
  unfolding wanted_from
  tried_wanted v ss us [] t = eq-eqb v (mate g.source) t
  tried_wanted v ss us (i ∷ is) t =
      rw (
        lt-ltb i (length g.arcs) t.0,
        eq-eqb (tail g i) v t.1,
        out_not_among (head g i) ss t.2,
        out_not_among (mate i) us t.3,
      ) (tried_wanted (head g i) (head g i ∷ ss) (i ∷ us) is t.4)

  pub wanted_from_lem : (is : List ℕ) → is_wanted g is ≡ wanted_from g g.source (g.source ∷ []) [] is
  wanted_from_lem is =
      test_same (is_wanted g is) (wanted_from g g.source (g.source ∷ []) [] is)
      (λ e.
      let r = and_two (is_regular g is) _ e in
      tried_wanted g.source (g.source ∷ []) [] is (regular_tried g _ is r.0 (eqb-true (end_of g g.source is) (mate g.source) r.1)))
      (λ e.
      let r = tried_regular g _ is (wanted_tried g.source (g.source ∷ []) [] is e) in
      and_both (is_regular g is) _ r.0 (eq-eqb (end_of g g.source is) (mate g.source) r.1))

-- MARKS
pub marks_none : (n : ℕ) → Marks (replicate n false) []
unfolding among
marks_none zero x = refl
marks_none (suc n) zero = refl
marks_none (suc n) (suc x) = marks_none n x

pub marks_more : (t : List Bool) (xs : List ℕ) (y : ℕ) → Marks t xs → y < length t → Marks (set t y true) (y ∷ xs)
unfolding among
marks_more t xs y M l x =
    ⊎_elim (λ (e : x ≡ y). rw (eq-eqb x y e, e, get_or-set_same t y true false l))
    (λ n. rw (ne_eqb x y n, get_or-set_other t y x true false n) (M x)) (same_or x y)

-- THE LOOP
pub walking_start : {s : ℕ} {xs : List Arc} {path : List ℕ} → PathLent s xs path →
    Walking s xs path 0 s (set (replicate 256 false) s true) (replicate arcs_most false)
walking_start {s} {xs} {path} L =
    record {
      lent = L;
      nodes = s ∷ [];
      arcs = [];
      nodes_marked = marks_more (replicate 256 false) [] s (marks_none 256) (omega (arith, L.arcs.source_byte, length-replicate {A = Bool} 256 false));
      arcs_marked = marks_none arcs_most;
      seen_long = length-set (replicate 256 false) s true ∙ length-replicate {A = Bool} 256 false;
      used_long = length-replicate {A = Bool} arcs_most false;
      rest = λ n. wanted_from_lem (graph n s xs) path;
    }

module _ {s : ℕ} {xs : List Arc} {path : List ℕ} {k v : ℕ} {t u : List Bool} (W : Walking s xs path k v t u) where
  pub walking_end : length path ≤ k → (n : ℕ) → is_wanted (graph n s xs) path ≡ eqb v (mate s)
  unfolding wanted_from
  walking_end l n = W.rest n ∙ rw (drop_of_length-le path {i = k} l)

  -- the next arc i goes from x to y, and m is its mate
  module _ (l : k < length path) {i : ℕ} (ei : i ≡ get_or path k 0) where
    walking_listed : i < length xs
    walking_listed = rw ei (W.lent.inside k l)

    walking_few : (i < arcs_most) × (mate i < arcs_most)
    walking_few = let few : i < arcs_most = omega (arith, walking_listed, W.lent.arcs.arcs_few) in (few, mate_below i arcs_most refl few)

    module _ {x : ℕ} (ex : x ≡ (get_or xs i no_arc).tail) where
      walking_step : (y m : ℕ) → y ≡ (get_or xs i no_arc).head → m ≡ mate i → (n : ℕ) → is_wanted (graph n s xs) path ≡
          (eqb x v && not (get_or t y false) && not (get_or u m false) && wanted_from (graph n s xs) y (y ∷ W.nodes) (i ∷ W.arcs) (drop (suc k) path))
      unfolding wanted_from
      walking_step y m ey em n =
          W.rest n ∙
          rw (drop-cons path k 0 l, ← ei, lt-ltb i (length xs) walking_listed, ← ex, ← ey, ← em, W.nodes_marked y, W.arcs_marked m)

      pub walking_apart : x ≢ v → (n : ℕ) → false ≡ is_wanted (graph n s xs) path
      walking_apart q n = rw (walking_step _ _ refl refl n, ne_eqb x v q)

      module _ (e : x ≡ v) {y : ℕ} (ey : y ≡ (get_or xs i no_arc).head) where
        pub walking_seen : get_or t y false ≡ true → (n : ℕ) → false ≡ is_wanted (graph n s xs) path
        walking_seen q n = rw (walking_step y _ ey refl n, eq-eqb x v e, q)

        module _ (f : get_or t y false ≡ false) {m : ℕ} (em : m ≡ mate i) where
          pub walking_used : get_or u m false ≡ true → (n : ℕ) → false ≡ is_wanted (graph n s xs) path
          walking_used q n = rw (walking_step y m ey em n, eq-eqb x v e, f, q)

          pub walking_next : get_or u m false ≡ false → y < 256 → Walking s xs path (k + 1) y (set t y true) (set u i true)
          walking_next q h =
              record {
                lent = W.lent;
                nodes = y ∷ W.nodes;
                arcs = i ∷ W.arcs;
                nodes_marked = marks_more t W.nodes y W.nodes_marked (omega (arith, W.seen_long));
                arcs_marked = marks_more u W.arcs i W.arcs_marked (omega (arith, W.used_long, walking_few));
                seen_long = length-set t y true ∙ W.seen_long;
                used_long = length-set u i true ∙ W.used_long;
                rest = λ n. walking_step y m ey em n ∙ rw (eq-eqb x v e, f, q, add-one k);
              }
