-- Laws of the theory, by subject; each file stands on those above it.
--   Arcs               pairs of numbers as arcs
--   Mates              mates of nodes and arcs
--   Unmated            lists of arcs without mates
--   Paths              paths as lists of arcs, and the tests of Graph
--   RegularPaths       regular paths put together: CONCAT, MATE-REVERSE, EXTEND
--   Segments           the paths that labels give
--   Reachable          reachable exactly if some regular path ends there
--   AlongPaths         a regular path node by node
--   Fragments          fragments of a state with the invariant
--   SourcePaths        a regular path from the source to each reached node
--   TreeStep           the tree step keeps the invariant
--   BudStep            the bud step keeps the invariant
--   Mirror             an arc and its mate ask for the same bud
--   Absorb             one more fragment is absorbed
--   Meet               both ends in one fragment: the bud
--   Ascent             the ascent from an arc to its bud, as a loop takes it
--   Settled            settled arcs, kept by both steps
--   Scan               the order in which arcs are looked at
--   Measure            each step lowers the measure
--   Start              the state at the start
--   Existence          every well-formed graph has a closed state
--   Restoration        a wanted path from the labels
--   Exact              a closed state reaches exactly the reachable nodes
--   Classes            a barrier's classes as a list
--   BarrierExcludes    a path and a barrier exclude each other
--   Parts              connected parts as the definition finds them
--   Forest             the forest of buds
--   Canonical          the parts of X are its trees, and their numbers
--   Barrier            without a path the canonical classes are a barrier
--   Entries            a graph without a path, read by its canonical barrier
--   Promise            what is promised of every well-formed graph
pub mod Arcs
pub mod Mates
pub mod Unmated
pub mod Paths
pub mod RegularPaths
pub mod Segments
pub mod Reachable
pub mod AlongPaths
pub mod Fragments
pub mod SourcePaths
pub mod TreeStep
pub mod BudStep
pub mod Mirror
pub mod Absorb
pub mod Meet
pub mod Ascent
pub mod Settled
pub mod Scan
pub mod Measure
pub mod Start
pub mod Existence
pub mod Restoration
pub mod Exact
pub mod Classes
pub mod BarrierExcludes
pub mod Parts
pub mod Forest
pub mod Canonical
pub mod Barrier
pub mod Entries
pub mod Promise
