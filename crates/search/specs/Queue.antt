-- The order of a search: a queue of reached nodes, each node's arcs looked at once, when the node is taken (document 000, section 2.3).
--   Queued R q                  the queue holds each node of which R holds, once
--   queued_below births k v u    u was reached before the event k, or by it and is below v
--   pushed q v                   the queue with v at its end
--   Popped q q' r                the next node was taken, or none was left
--   Enqueued R q q'             the queue grown, its first nodes as they were
--   ArcWithin g L i             arc i and its ends' bases stand within the tables
--   is_settled g L i             arc i lies within one bud, or is a base arc, or the mate of one
--   Looking g T i               an arc that leaves a reached node is to be looked at
--   ArcLooked g T i T'          the tables after that
--   taken_of q t                 the nodes in the first t places of the queue
--   Searching g T               a search between two nodes
--   Scanned g T x a             a search at the node x, which was taken last, its arcs below a looked at
--   Blank n T                   tables for n mate pairs, before a search
--   StartStored g T T'          what the start stores
--   SearchEnded g L marks found      the end: the source's mate is reached, or no arc asks for a step; the marks are clear
use Rattle.std.specs.Prelude.{◌≡◌, Bool, true, false, ◌||◌, Option, Some, None, List, ℕ, ◌+◌, ◌*◌, ◌/◌, ◌≤◌, ◌<◌, ltb, eqb, length, get_or, take, set}
use Rattle.formats.specs.Limits.{arcs_most}
use Rattle.counting.specs.Tests.{pick, among}
use Rattle.counting.specs.Lists.{In, Distinct}
use Rattle.skew.specs.Graph.{Graph, mate}
use Rattle.skew.specs.Paths.{tail, head}
use Rattle.skew.specs.Steps.{SettledArc, Touched, Closed}
use Rattle.skew.specs.Scan.{Scanning}
use Rattle.search.specs.Tables.{Labels, Queue, queue, Tables}
use Rattle.search.specs.State.{state_in, state_of, StateHeld, SearchHeld, Clear}
use Rattle.search.specs.Steps.{Leaving, Later}

-- THE QUEUE
pub record Queued (R : ℕ → Bool) (q : Queue) : Type 0 where
  pub fits : q.count ≤ length q.nodes
  pub once : Distinct (take q.count q.nodes)
  pub node : (u : ℕ) → R u ≡ true → u < length q.nodes
  pub sound : (u : ℕ) → In u (take q.count q.nodes) → R u ≡ true
  pub whole : (u : ℕ) → R u ≡ true → In u (take q.count q.nodes)

abbrev pub queued_below : (births : List ℕ) (clock bound node : ℕ) → Bool
queued_below births k v u = pick (eqb (get_or births u 0) k) (ltb u v) (ltb 0 (get_or births u 0))

abbrev pub pushed : Queue → (node : ℕ) → Queue
pushed q v = queue (set q.nodes q.count v) (q.count + 1) q.taken

abbrev pub Popped : (q q' : Queue) → Option ℕ → Type 0
Popped q q' (Some x) = (q.taken < q.count) × (x ≡ get_or q.nodes q.taken 0) × (q' ≡ queue q.nodes q.count (q.taken + 1))
Popped q q' None = (q.count ≤ q.taken) × (q' ≡ q)

pub record Enqueued (R : ℕ → Bool) (q q' : Queue) : Type 0 where
  pub queued : Queued R q'
  pub long : length q'.nodes ≡ length q.nodes
  pub more : q.count ≤ q'.count
  pub kept : take q.count q'.nodes ≡ take q.count q.nodes
  pub taken_same : q'.taken ≡ q.taken

-- ARCS LOOKED AT
pub record ArcWithin (g : Graph) (L : Labels) (i : ℕ) : Type 0 where
  pub is_arc : i < length g.arcs
  pub small : i < arcs_most
  pub head_in_births : head g i < length L.births
  pub tail_in_bases : tail g i / 2 < length L.bases
  pub head_in_bases : head g i / 2 < length L.bases
  pub tail_in_vias : get_or L.bases (tail g i / 2) 0 < length L.vias
  pub head_in_vias : get_or L.bases (head g i / 2) 0 < length L.vias

abbrev pub is_settled : Graph → Labels → (arc : ℕ) → Bool
is_settled g L i =
    pick (eqb (get_or L.bases (tail g i / 2) 0) (get_or L.bases (head g i / 2) 0)) (ltb 0 (get_or L.births (head g i) 0))
    (eqb (get_or L.vias (get_or L.bases (head g i / 2) 0) 0) i || eqb (get_or L.vias (get_or L.bases (tail g i / 2) 0) 0) (mate i))

pub record Looking (g : Graph) (T : Tables) (i : ℕ) : Type 0 where
  pub leaving : Leaving g T.labels T.clock i
  pub clear : Clear false (2 * g.pairs) T.marks
  pub queue_long : length T.queue.nodes ≡ 2 * g.pairs
  pub queued : Queued (state_of T).reached T.queue

pub record ArcLooked (g : Graph) (T : Tables) (i : ℕ) (T' : Tables) : Type 0 where
  pub state : StateHeld g T'.labels T'.clock
  pub clear : Clear false (2 * g.pairs) T'.marks
  pub later : Later g (state_of T) (state_of T')
  pub touched : Touched g (state_of T') i
  pub settled : (state_of T).reached (mate (head g i)) ≡ true → SettledArc g (state_of T') i
  pub enqueued : Enqueued (state_of T').reached T.queue T'.queue

-- NODE BY NODE
abbrev pub taken_of : Queue → (count node : ℕ) → Bool
taken_of q t u = among u (take t q.nodes)

pub record Searching (g : Graph) (T : Tables) : Type 0 where
  pub search : SearchHeld g T.labels T.clock
  pub clear : Clear false (2 * g.pairs) T.marks
  pub queue_long : length T.queue.nodes ≡ 2 * g.pairs
  pub queued : Queued (state_of T).reached T.queue
  pub taken : T.queue.taken ≤ T.queue.count
  pub scanning : Scanning g (state_of T) (taken_of T.queue T.queue.taken) 0 0

pub record Scanned (g : Graph) (T : Tables) (x a : ℕ) : Type 0 where
  pub search : SearchHeld g T.labels T.clock
  pub clear : Clear false (2 * g.pairs) T.marks
  pub queue_long : length T.queue.nodes ≡ 2 * g.pairs
  pub queued : Queued (state_of T).reached T.queue
  pub place : ℕ
  pub last : T.queue.taken ≡ place + 1
  pub taken : place < T.queue.count
  pub here : get_or T.queue.nodes place 0 ≡ x
  pub scanning : Scanning g (state_of T) (taken_of T.queue place) x a

-- THE START AND THE END
pub record Blank (n : ℕ) (T : Tables) : Type 0 where
  pub births_clear : Clear 0 (2 * n) T.labels.births
  pub marks_clear : Clear false (2 * n) T.marks
  pub vias_long : length T.labels.vias ≡ 2 * n
  pub bases_long : length T.labels.bases ≡ n
  pub queue_long : length T.queue.nodes ≡ 2 * n
  pub queue_empty : T.queue.count ≡ 0
  pub none_taken : T.queue.taken ≡ 0

pub record StartStored (g : Graph) (T T' : Tables) : Type 0 where
  pub bases : List ℕ
  pub bases_long : length bases ≡ length T.labels.bases
  pub own : (k : ℕ) → k < length bases → get_or bases k 0 ≡ 2 * k
  pub births_are : T'.labels.births ≡ set T.labels.births g.source 1
  pub vias_are : T'.labels.vias ≡ set T.labels.vias g.source (length g.arcs)
  pub bases_are : T'.labels.bases ≡ set bases (g.source / 2) g.source
  pub marks_same : T'.marks ≡ T.marks
  pub queue_is : T'.queue ≡ pushed T.queue g.source
  pub clock_is : T'.clock ≡ 2

pub record SearchEnded (g : Graph) (L : Labels) (marks : List Bool) (found : Bool) : Type 0 where
  pub clock : ℕ
  pub clear : Clear false (2 * g.pairs) marks
  pub search : SearchHeld g L clock
  pub path : found ≡ true → (state_in L clock).reached (mate g.source) ≡ true
  pub closed : found ≡ false → Closed g (state_in L clock) × ((state_in L clock).reached (mate g.source) ≡ false)
