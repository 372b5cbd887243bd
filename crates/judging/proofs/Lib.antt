-- Laws, by subject.
--   Barriers     classes between which an arc may go, entries counted
--   Walks        runs of arcs judged arc by arc
pub mod Barriers
pub mod Walks
