-- Definitions over finite lists.
--   Tests      document 03's Boolean tests over lists, and the numbers below a bound
--   Lists      the same notions as types that compute, and lists made from lists
--   Pairs      a pair of numbers
--   Sums       sums over the numbers below a bound
--   Loops      a list gone through in a loop
--   SliceVecs  a list in a lent slice, which grows from the front
pub mod Tests
pub mod Lists
pub mod Pairs
pub mod Sums
pub mod Loops
pub mod SliceVecs
