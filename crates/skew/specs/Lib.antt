-- Definitions of the theory.
--   Graph       graphs, regular paths, reachable nodes, barriers, as tests
--   Paths       paths as types; skew-symmetric and well-formed graphs
--   Segments    the path that labels give
--   Search      the state of a search and its invariant
--   Steps       tree step and bud step, settled arcs, closed states
--   Measure     a number that every step lowers
--   Ascent      how the bud of an arc is found
--   Scan        the order in which arcs are looked at
--   Forest      the forest of buds
--   Parts       connected parts
--   Barrier     barriers as a type
--   Promise     what is promised of every well-formed graph
pub mod Graph
pub mod Paths
pub mod Segments
pub mod Search
pub mod Steps
pub mod Measure
pub mod Ascent
pub mod Scan
pub mod Forest
pub mod Parts
pub mod Barrier
pub mod Promise
