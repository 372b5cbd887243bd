-- Laws of the theory, by subject; each file stands on those above it.
--   Pairs            lists of pairs, their ends, and the tests of Stock
--   Rising           rising lists of pairs
--   LookUp           the look-up of a pair among fits
--   Matchings        pairings as involutions and as lists, both ways, with lengths
--   InOrder          the pairs of a matching camera by camera
--   Greatest         the greatest number of pairs and the cameras left over, by all pairings
--   Marks            marks by largest pairings and by fits
--   Rotations        one rotation of a matching
--   Rows             stores into a row of partners
--   Flags            stores into a table of flags
--   DoubledTable     the doubled table's arcs; it is well formed
--   OneArcIn         only one arc leads into a node 2k
--   Augmentation     a regular path of the doubled table is a run of rotations
--   Certificates     what a certificate gives for every pairing, by counting
--   Groups           representatives: where the entries of the canonical barrier lead
--   Decomposition    a doubled table without a path gives the certificate
--   Largest          no path: the pairing is largest, and the reachable nodes are the marks
--   Plans            a plan for every stock, and what a budget of searches comes to
--   Promises         the promises, kept
pub mod Pairs
pub mod Rising
pub mod LookUp
pub mod Matchings
pub mod InOrder
pub mod Greatest
pub mod Marks
pub mod Rotations
pub mod Rows
pub mod Flags
pub mod DoubledTable
pub mod OneArcIn
pub mod Augmentation
pub mod Certificates
pub mod Groups
pub mod Decomposition
pub mod Largest
pub mod Plans
pub mod Promises
