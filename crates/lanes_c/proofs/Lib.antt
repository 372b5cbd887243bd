-- The laws, by subject.
--   Tallies    the sixteen counts that a call leaves
--   Refusals   what a call returns tells what it told: the check its verdict, the others number and size
pub mod Tallies
pub mod Refusals
