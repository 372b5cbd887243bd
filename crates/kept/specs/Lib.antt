-- What the calls' contracts and the promises cite.
--   State      the state between calls, and each call as a function of it
--   Block      the state as the code holds it, and what a call owes
--   Columns    pairs in columns of the block
--   Slots      what is done to a block part by part
--   Promise    what is promised of calls in a row
--   Known      examples
pub mod State
pub mod Block
pub mod Columns
pub mod Slots
pub mod Promise
pub mod Known
