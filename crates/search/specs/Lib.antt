-- What the lent tables hold, and what each function is given and leaves.
--   Tables     what is lent, as values
--   Lent       the tables that are lent
--   State      the state of a search
--   Steps      tree step and bud step
--   Queue      the order of a search, its start and end
--   Restore    path restoration
--   ClassTable the canonical barrier's classes
--   Answer     a path, or the reachable nodes, or the barrier
pub mod Tables
pub mod Lent
pub mod State
pub mod Steps
pub mod Queue
pub mod Restore
pub mod ClassTable
pub mod Answer
