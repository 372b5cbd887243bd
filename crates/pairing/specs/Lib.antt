-- Definitions.
--   Table    what the lent slices hold
--   Lent     a stock as code is lent it
--   Row      loops over a row of partners
--   Plan     the loop of searches
pub mod Table
pub mod Lent
pub mod Row
pub mod Plan
