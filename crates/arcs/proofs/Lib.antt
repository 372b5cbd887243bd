-- Laws, by subject.
--   Tables       the ends of the arcs that are lent
pub mod Tables
