-- Definitions of the theory.
--   Stock           stocks, pairings, marks, plans
--   Promise         what is promised of every well-formed stock
--   Budget          a budget of searches: what it comes to, and what is promised of it
--   Pairs           lists of pairs: ends, rising
--   Matching        pairings as involutions
--   Rotation        rotation of a matching, and along a path
--   Row             a pairing as a row of partners
--   Flags           a table of flags
--   LookUp          the look-up of a pair among fits
--   DoubledTable    the doubled table of a matching, a skew-symmetric graph
--   Certificate     the Gallai-Edmonds decomposition
pub mod Stock
pub mod Promise
pub mod Budget
pub mod Pairs
pub mod Matching
pub mod Rotation
pub mod Row
pub mod Flags
pub mod LookUp
pub mod DoubledTable
pub mod Certificate
