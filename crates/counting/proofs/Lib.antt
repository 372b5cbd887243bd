-- Laws over finite lists, by subject; each file stands on those above it.
--   Booleans       tests taken apart and put together, equality of numbers decided
--   Membership     In, with ++, all, any, among
--   NoRepeats      Distinct, with ++ and none_twice
--   Reversal       reverse_map
--   Kept           keep, and how many are kept
--   Pigeonhole     no repeats within a list: no longer; injections bound lengths, or are onto
--   Range          the numbers below a bound; bounded search
--   Involutions    closed under an involution without fixed points: an even number
--   Numbering      kept elements numbered by how many come before
--   Summation      sums compared
--   Stores         runs of stores into a list
--   Parts          parts of a list, also after stores into it
--   Zips           two lists, pair by pair
--   Loops          a list gone through in a loop: what stands at a place; elements mapped in place
--   SliceVecs      a list in a lent slice, extended by one list after another
pub mod Booleans
pub mod Membership
pub mod NoRepeats
pub mod Reversal
pub mod Kept
pub mod Pigeonhole
pub mod Range
pub mod Involutions
pub mod Numbering
pub mod Summation
pub mod Stores
pub mod Parts
pub mod Zips
pub mod Loops
pub mod SliceVecs
