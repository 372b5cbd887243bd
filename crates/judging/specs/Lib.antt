-- What each judge is given, and keeps as it goes on.
--   Barriers   a table of classes, judged class by class
--   Walks      a run of arcs, judged arc by arc
pub mod Barriers
pub mod Walks
