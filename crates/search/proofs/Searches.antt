-- The search node by node: a node's arcs scanned, the start and the end.
--   scan_begins                   the next node in the queue is scanned
--   scan_at, scan_looks           the arc at hand leaves it, and was looked at
--   scan_next                     the arc at hand does not leave it
--   scan_ends                     no arc is left: the node is taken
--   ends_closed                   the end without a path
--   search_starts                 the source alone is reached
use mathlib.Core.Path.{◌≡◌, refl, sym, ap, subst, ◌∙◌}
use mathlib.Core.Logic.{inl, inr, ◌≢◌, ⊎_elim}
use mathlib.Core.Bool.{true, false}
use mathlib.Core.List.{List, [], ◌∷◌, ◌++◌}
use Prim.Native.Nat.{ℕ, zero, suc, ◌+◌, ◌*◌, ◌-◌, ◌/◌, ◌%◌, ◌≤◌, ◌<◌}
use native.Mathlib.Numerals.{add-one}
use native.Mathlib.Omega.{arith}
use lib.Dec.{ltb, eqb}
use lib.ListN.{length, get_or, take, length-set, get_or-eq_default}
use lib.Seq.{get_or-set_same, get_or-set_other, take-suc, get_or-take, length-take-le}
use borrow.Author.Tests.{ltb-true, ltb-false, lt-ltb}
use Rattle.counting.specs.Tests.{among}
use Rattle.counting.specs.Sums.{sum}
use Rattle.counting.proofs.Booleans.{by_test, true_false, same_or}
use Rattle.counting.proofs.Membership.{get_d_in, get_d_default, among_in, in_among, in_append}
use Rattle.skew.specs.Graph.{Graph, mate}
use Rattle.skew.specs.Paths.{tail}
use Rattle.skew.specs.Search.{State, Started}
use Rattle.skew.specs.Measure.{weight}
use Rattle.skew.specs.Scan.{Scanning}
use Rattle.skew.proofs.Mates.{mate_half, half_pair}
use Rattle.skew.proofs.Measure.{weigh_two}
use Rattle.skew.proofs.Start.{start_keeps}
use Rattle.skew.proofs.Scan.{scan_past, scan_look, scan_done, scan_switch, scan_start, scan_closed}
use Rattle.arcs.specs.Table.{ArcTable}
use Rattle.std.specs.Prelude.{Some}
use Rattle.search.specs.Tables.{Labels, is_reached, Queue, Tables, tables}
use Rattle.search.specs.State.{state_in, state_of, StateHeld}
use Rattle.search.specs.Queue.{Popped, Looking, ArcLooked, taken_of, Searching, Scanned, Blank, StartStored, SearchEnded}
use Rattle.search.proofs.States.{not_reached}
use Rattle.search.proofs.Queues.{queued_none, queued_add, kept_short}

-- A NODE'S ARCS
pub scan_begins : {g : Graph} {T : Tables} {x : ℕ} {q : Queue} → Searching g T → Popped T.queue q (Some x) →
    Scanned g (tables T.labels T.marks q T.clock) x 0
scan_begins {g} {T} {x} S P =
    rw P.2
    (record {
      search = S.search;
      clear = S.clear;
      queue_long = S.queue_long;
      queued = record { fits = S.queued.fits; once = S.queued.once; node = S.queued.node; sound = S.queued.sound; whole = S.queued.whole };
      place = T.queue.taken;
      last = refl;
      taken = P.0;
      here = sym P.1;
      scanning = scan_switch g S.search.table.well_formed (state_of T) (taken_of T.queue T.queue.taken) 0 x S.scanning;
    })

module _ {g : Graph} {T : Tables} {x a : ℕ} (S : Scanned g T x a) where
  -- the queue's table, the number of nodes in it, and the place of x
  abbrev vs : List ℕ
  vs = T.queue.nodes

  abbrev m : ℕ
  m = T.queue.count

  abbrev t : ℕ
  t = S.place

  in_queue : t < length vs
  in_queue = omega (arith, S.queued.fits, S.taken)

  node_reached : (state_of T).reached x ≡ true
  node_reached =
      let e : get_or (take m vs) t 0 ≡ x = get_or-take m vs t 0 S.taken ∙ S.here in
      S.queued.sound x (rw e at (get_d_in (take m vs) 0 t (omega (arith, length-take-le m vs S.queued.fits, S.taken))))

  pub scan_at : a < length g.arcs → tail g a ≡ x → Looking g T a
  scan_at h e =
      record {
        leaving = record { held = S.search; is_arc = h; tail_reached = rw e node_reached };
        clear = S.clear;
        queue_long = S.queue_long;
        queued = S.queued;
      }

  pub scan_looks : {T' : Tables} → ArcLooked g T a T' → Scanned g T' x (a + 1)
  scan_looks {T'} A =
      let E = A.enqueued in
      let vs' = T'.queue.nodes in
      let short : take (t + 1) vs' ≡ take (t + 1) vs = kept_short vs vs' m (t + 1) (omega (arith, S.taken)) E.kept in
      let same : take t vs' ≡ take t vs = kept_short vs vs' m t (omega (arith, S.taken)) E.kept in
      record {
        search = record { table = S.search.table; state = A.state };
        clear = A.clear;
        queue_long = E.long ∙ S.queue_long;
        queued = E.queued;
        place = t;
        last = E.taken_same ∙ S.last;
        taken = omega (arith, S.taken, E.more);
        here =
            sym (get_or-take (t + 1) vs' t 0 (omega arith)) ∙ ap (λ (l : List ℕ). get_or l t 0) short ∙
            get_or-take (t + 1) vs t 0 (omega arith) ∙
            S.here;
        scanning =
            subst (λ (l : List ℕ). Scanning g (state_of T') (λ (u : ℕ). among u l) x (a + 1)) (sym same)
            (scan_look g S.search.table.well_formed (state_of T) (state_of T') A.state.invariant (taken_of T.queue t) x a node_reached
            S.scanning A.later.reached_still A.later.settled_still A.touched A.settled);
      }

  pub scan_next : a < length g.arcs → tail g a ≢ x → Scanned g T x (a + 1)
  scan_next h ne =
      record {
        search = S.search;
        clear = S.clear;
        queue_long = S.queue_long;
        queued = S.queued;
        place = t;
        last = S.last;
        taken = S.taken;
        here = S.here;
        scanning =
            scan_past g S.search.table.well_formed (state_of T) (taken_of T.queue t) x a (a + 1)
            (λ j l m e. let same : j ≡ a = omega arith in ne (rw same at e)) S.scanning;
      }

  pub scan_ends : a ≡ length g.arcs → Searching g T
  scan_ends e =
      let f : take T.queue.taken vs ≡ take t vs ++ get_or vs t 0 ∷ [] =
      ap (λ (n : ℕ). take n vs) S.last ∙ rw (add-one t) (take-suc vs t 0 in_queue) in
      record {
        search = S.search;
        clear = S.clear;
        queue_long = S.queue_long;
        queued = S.queued;
        taken = omega (arith, S.taken, S.last);
        scanning =
            scan_done g S.search.table.well_formed (state_of T) (taken_of T.queue t) (taken_of T.queue T.queue.taken) x 0
            (λ u i.
            ⊎_elim (λ j. inl (in_among u (take t vs) j)) (⊎_elim (λ j. inr (j ∙ S.here)) (λ b. absurd b))
            (in_append u (take t vs) (get_or vs t 0 ∷ []) (among_in u (take t vs ++ get_or vs t 0 ∷ []) (rw f at i))))
            (rw e at S.scanning);
      }

-- THE END
module _ {g : Graph} {T : Tables} (S : Searching g T) {goal : ℕ} (e : goal ≡ mate g.source) where
  pub ends_closed : is_reached T.labels goal ≡ false → T.queue.count ≤ T.queue.taken → SearchEnded g T.labels T.marks false
  ends_closed h l =
      let c : T.queue.taken ≡ T.queue.count = omega (arith, S.taken) in
      record {
        clock = T.clock;
        clear = S.clear;
        search = S.search;
        path = λ r. true_false r refl;
        closed = λ r. (
          scan_closed g S.search.table.well_formed (state_of T) (taken_of T.queue T.queue.taken) 0
              (λ u l. in_among u (take T.queue.taken T.queue.nodes) (rw c (S.queued.whole u l)))
              S.scanning,
          rw (← e) h,
        );
      }

-- THE START
weights_few : (st : State) (m : ℕ) → sum (weight st) m ≤ 2 * m
unfolding sum
weights_few st zero = omega arith
weights_few st (suc m) = omega (arith, weights_few st m, weigh_two (st.reached m) (st.reached (mate m)) (eqb (st.base m) m))

module _ {g : Graph} {T T' : Tables} (A : ArcTable g) (B : Blank g.pairs T) (S : StartStored g T T') where
  abbrev L : Labels
  L = T.labels

  abbrev L' : Labels
  L' = T'.labels

  abbrev s : ℕ
  s = g.source

  abbrev first : State
  first = state_in L' 2

  source_node : s < 2 * g.pairs
  source_node = A.well_formed.source_node

  birth_s : get_or L'.births s 0 ≡ 1
  birth_s = rw S.births_are (get_or-set_same L.births s 1 0 (omega (arith, B.births_clear.long, source_node)))

  reached_s : first.reached s ≡ true
  reached_s = rw birth_s (lt-ltb 0 1 (omega arith))

  reached_only : (u : ℕ) → first.reached u ≡ true → u ≡ s
  reached_only u l = ⊎_elim (λ q. q) (λ m. true_false l (not_reached (get_or L'.births u 0) (other m))) (same_or u s)
    where
      other : u ≢ s → get_or L'.births u 0 ≡ 0
      other m = rw S.births_are (get_or-set_other L.births s u 1 0 m ∙ B.births_clear.each u)

  started : Started g first
  started =
      record {
        reached_source = reached_s;
        reached_only = reached_only;
        base_source = λ u. ⊎_elim (λ (q : u ≡ s). rw q (own s refl)) (λ (q : u ≡ mate s). rw q (own (mate s) (mate_half s)));
        base_other = λ u o.
            rw S.bases_are (get_or-set_other S.bases (s / 2) (u / 2) s (u - u % 2) (λ q. ⊎_elim o.0 o.1 (half_pair u s q)) ∙ lower u);
        via_source = rw S.vias_are (get_or-set_same L.vias s (length g.arcs) 0 (omega (arith, B.vias_long, source_node)));
        before_clock = rw birth_s (omega arith);
      }
    where
      own : (u : ℕ) → u / 2 ≡ s / 2 → get_or L'.bases (u / 2) (u - u % 2) ≡ s
      own u e = rw (e, S.bases_are) (get_or-set_same S.bases (s / 2) s (u - u % 2) (omega (arith, S.bases_long, B.bases_long, source_node)))

      lower : (u : ℕ) → get_or S.bases (u / 2) (u - u % 2) ≡ u - u % 2
      lower u =
          by_test (ltb (u / 2) (length L.bases))
          (λ t.
          let h = ltb-true (u / 2) (length L.bases) t in
          get_d_default S.bases (u / 2) (u - u % 2) 0 (omega (arith, S.bases_long)) ∙ S.own (u / 2) (omega (arith, h, S.bases_long)) ∙ omega arith)
          (λ t. get_or-eq_default S.bases (u - u % 2) (omega (arith, S.bases_long, ltb-false (u / 2) (length L.bases) t)))

  state : StateHeld g L' 2
  state =
      record {
        invariant = start_keeps g first started;
        births_long = rw S.births_are (length-set L.births s 1 ∙ B.births_clear.long);
        vias_long = rw S.vias_are (length-set L.vias s (length g.arcs) ∙ B.vias_long);
        bases_long = rw S.bases_are (length-set S.bases (s / 2) s ∙ S.bases_long ∙ B.bases_long);
        base_node = λ j l.
            rw S.bases_are
            (⊎_elim (λ (q : j ≡ s / 2). rw (q, get_or-set_same S.bases (s / 2) s 0 (omega (arith, S.bases_long, B.bases_long, source_node))) source_node)
            (λ m. rw (get_or-set_other S.bases (s / 2) j s 0 m, S.own j (omega (arith, S.bases_long, B.bases_long))) (omega arith)) (same_or j (s / 2)));
        clock_late = omega arith;
        clock_bound = omega (arith, weights_few first (2 * g.pairs), A.pairs_few);
      }

  pub search_starts : Searching g T'
  search_starts =
      record {
        search = record { table = A; state = rw S.clock_is state };
        clear = rw S.marks_same B.marks_clear;
        queue_long = rw S.queue_is (length-set T.queue.nodes T.queue.count s ∙ B.queue_long);
        queued =
            rw S.queue_is
            (queued_add (queued_none T.queue B.queue_empty) refl
            (omega (arith, B.queue_long, source_node)) reached_s (λ u ne. by_test (first.reached u) (λ t. absurd (ne (reached_only u t))) (λ t. t)));
        taken = rw S.queue_is (omega (arith, B.none_taken));
        scanning =
            rw S.clock_is
            (scan_start g A.well_formed first (taken_of T'.queue T'.queue.taken) 0 (λ u t. absurd (among_in u [] (rw (S.queue_is, B.none_taken) at t))));
      }
