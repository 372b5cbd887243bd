-- What is lent.
--   Table      a graph within the limits of document 01
--   Lent       a graph as code is lent it
pub mod Table
pub mod Lent
