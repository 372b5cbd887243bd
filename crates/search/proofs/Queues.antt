-- The queue of reached nodes.
--   queued_none, queued_same, queued_add    no node is queued; the same set, by another test; one node more
--   pushed_is                               the queue after a push
--   queue_room                              a node that is not in the queue has a place in it
--   enqueued_none, _same, _add              a queue grown by no node, with the same set, by one node more
--   kept_short                              a shorter front is kept too
--   Enqueuing births k q₀ q v               the loop of `enqueue`: the nodes below v that the event k reached stand in the queue
--   enqueuing_room, _next, _skip            the node v: there is room for it, and it goes into the queue; or it stays out
use mathlib.Core.Path.{◌≡◌, refl, sym, ap, subst, ◌∙◌}
use mathlib.Core.Logic.{inl, ◌≢◌, ⊎_elim}
use mathlib.Core.Bool.{Bool, true, false}
use mathlib.Core.List.{List, [], ◌∷◌, ◌++◌}
use Prim.Native.Nat.{ℕ, ◌+◌, ◌≤◌, ◌<◌}
use native.Mathlib.Numerals.{add-one}
use native.Mathlib.Omega.{arith}
use lib.Dec.{ltb}
use lib.ListN.{length, get_or, take, set, length-set, length-append}
use lib.Seq.{length-take-le, take-take, take-set-le, take-suc-set}
use borrow.Author.Tests.{eq-eqb, ne_eqb, ltb-true, ltb-false, lt-ltb, le-ltb}
use Rattle.counting.specs.Lists.{In, Distinct}
use Rattle.counting.specs.SliceVecs.{Extended}
use Rattle.counting.specs.declared.slice_vec.SliceVec.{SliceVec}
use Rattle.counting.proofs.Booleans.{by_test, true_false, same_or}
use Rattle.counting.proofs.Membership.{in_left, in_right, in_append}
use Rattle.counting.proofs.NoRepeats.{distinct_append}
use Rattle.counting.proofs.Range.{pigeonhole}
use Rattle.search.specs.Tables.{Queue, queue}
use Rattle.search.specs.Queue.{Queued, queued_below, pushed, Enqueued}

module _ {R R' : ℕ → Bool} (same : (u : ℕ) → R' u ≡ R u) where
  pub queued_same : {q : Queue} → Queued R q → Queued R' q
  queued_same Q =
      record {
        fits = Q.fits;
        once = Q.once;
        node = λ u r. Q.node u (sym (same u) ∙ r);
        sound = λ u i. same u ∙ Q.sound u i;
        whole = λ u r. Q.whole u (sym (same u) ∙ r);
      }

  pub enqueued_same : {q q' : Queue} → Enqueued R q q' → Enqueued R' q q'
  enqueued_same E = record { queued = queued_same E.queued; long = E.long; more = E.more; kept = E.kept; taken_same = E.taken_same }

pub queued_none : (q : Queue) → q.count ≡ 0 → Queued (λ (u : ℕ). false) q
queued_none q e =
    record {
      fits = omega (arith, e);
      once = rw e tt;
      node = λ u r. true_false r refl;
      sound = λ u i. absurd (rw e at i);
      whole = λ u r. true_false r refl;
    }

pub enqueued_none : {R : ℕ → Bool} {q : Queue} → Queued R q → Enqueued R q q
enqueued_none Q = record { queued = Q; long = refl; more = omega arith; kept = refl; taken_same = refl }

pub pushed_is : {v w : SliceVec ℕ} {x taken : ℕ} → Extended v (x ∷ []) w →
    queue w.slice.now w.len taken ≡ pushed (queue v.slice.now v.len taken) x
pushed_is E = rw (E.slice_is, E.len_is)

-- A NODE MORE
module _ {R : ℕ → Bool} {q : Queue} (Q : Queued R q) {w : ℕ} (out : R w ≡ false) (low : w < length q.nodes) where
  -- the nodes that stand in it
  abbrev qs : List ℕ
  qs = take q.count q.nodes

  distinct_more : Distinct (qs ++ w ∷ [])
  distinct_more =
      distinct_append qs (w ∷ []) Q.once (λ b. b, tt)
      (λ x i. ⊎_elim (λ e. true_false (Q.sound w (subst (λ (z : ℕ). In z qs) e i)) out) (λ b. b))

  pub queue_room : q.count < length q.nodes
  queue_room =
      let l =
      pigeonhole (length q.nodes) (qs ++ w ∷ []) distinct_more
      (λ x i. ⊎_elim (λ j. Q.node x (Q.sound x j)) (⊎_elim (λ e. omega arith) (λ b. absurd b)) (in_append x qs (w ∷ []) i)) in
      omega (arith, length-append qs (w ∷ []), length-take-le q.count q.nodes Q.fits)

  module _ {R' : ℕ → Bool} (here : R' w ≡ true) (same : (u : ℕ) → u ≢ w → R' u ≡ R u) where
    front : take (q.count + 1) (set q.nodes q.count w) ≡ qs ++ w ∷ []
    front = rw (add-one q.count) (take-suc-set q.nodes q.count w queue_room)

    pub queued_add : Queued R' (pushed q w)
    queued_add =
        record {
          fits = omega (arith, length-set q.nodes q.count w, queue_room);
          once = rw front distinct_more;
          node = λ u r.
              rw (length-set q.nodes q.count w) (⊎_elim (λ (e : u ≡ w). rw e low) (λ n. Q.node u (sym (same u n) ∙ r)) (same_or u w));
          sound = λ u i.
              ⊎_elim (λ j. ⊎_elim (λ (e : u ≡ w). rw e here) (λ n. same u n ∙ Q.sound u j) (same_or u w))
              (⊎_elim (λ (e : u ≡ w). rw e here) (λ b. absurd b)) (in_append u qs (w ∷ []) (rw front at i));
          whole = λ u r.
              rw front
              (⊎_elim (λ (e : u ≡ w). in_right u qs (w ∷ []) (inl e)) (λ n. in_left u qs (w ∷ []) (Q.whole u (sym (same u n) ∙ r)))
              (same_or u w));
        }

pub enqueued_add : {R R' : ℕ → Bool} {q q' : Queue} {w : ℕ} → Enqueued R q q' → R w ≡ false → w < length q'.nodes → R' w ≡ true →
    ((u : ℕ) → u ≢ w → R' u ≡ R u) → Enqueued R' q (pushed q' w)
enqueued_add {q = q} {q'} {w} E out low here same =
    record {
      queued = queued_add E.queued out low here same;
      long = length-set q'.nodes q'.count w ∙ E.long;
      more = omega (arith, E.more);
      kept = take-set-le q.count q'.nodes q'.count w E.more ∙ E.kept;
      taken_same = E.taken_same;
    }

pub kept_short : (q q' : List ℕ) (m t : ℕ) → t ≤ m → take m q' ≡ take m q → take t q' ≡ take t q
kept_short q q' m t l e = sym (take-take t m q' l) ∙ ap (take t) e ∙ take-take t m q l

-- THE LOOP OF enqueue
pub record Enqueuing (births : List ℕ) (k : ℕ) (q₀ q : Queue) (v : ℕ) : Type 0 where
  pub within : v ≤ length births
  pub long : length q.nodes ≡ length births
  pub enqueued : Enqueued (queued_below births k v) q₀ q

module _ {births : List ℕ} {k : ℕ} {q₀ q : Queue} {v : ℕ} (E : Enqueuing births k q₀ q v) where
  -- another node's test does not change
  below_other : (u : ℕ) → u ≢ v → ltb u (v + 1) ≡ ltb u v
  below_other u n =
      by_test (ltb u v) (λ t. rw t (lt-ltb u (v + 1) (omega (arith, ltb-true u v t)))) (λ t. rw t (le-ltb u (v + 1) (omega (arith, ltb-false u v t))))

  below_same : (u : ℕ) → u ≢ v → queued_below births k (v + 1) u ≡ queued_below births k v u
  below_same u n = rw (below_other u n)

  module _ (low : v < length births) where
    module _ (e : get_or births v 0 ≡ k) where
      not_yet : queued_below births k v v ≡ false
      not_yet = rw (eq-eqb (get_or births v 0) k e) (le-ltb v v (omega arith))

      pub enqueuing_room : q.count < length q.nodes
      enqueuing_room = queue_room E.enqueued.queued not_yet (omega (arith, E.long))

      pub enqueuing_next : Enqueuing births k q₀ (pushed q v) (v + 1)
      enqueuing_next =
          record {
            within = omega arith;
            long = length-set q.nodes q.count v ∙ E.long;
            enqueued =
                enqueued_add E.enqueued not_yet (omega (arith, E.long)) (rw (eq-eqb (get_or births v 0) k e) (lt-ltb v (v + 1) (omega arith)))
                below_same;
          }

    pub enqueuing_skip : get_or births v 0 ≢ k → Enqueuing births k q₀ q (v + 1)
    enqueuing_skip n =
        record {
          within = omega arith;
          long = E.long;
          enqueued =
              enqueued_same (λ u. ⊎_elim (λ (e : u ≡ v). rw (e, ne_eqb (get_or births v 0) k n)) (below_same u) (same_or u v)) E.enqueued;
        }
