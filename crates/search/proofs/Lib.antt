-- Laws, by subject.
--   States       the tables as a state
--   TreeSteps    the tree step on the tables
--   Ascents      the ascent from the ends of an arc
--   BudSteps     the bud step on the tables
--   Queues       the queue of reached nodes
--   Looks        arcs looked at
--   Searches     node by node, the start and the end
--   Reverses     a part of a path reversed, each arc mated
--   Restores     path restoration
--   Roots        the root of a node's tree of buds
--   ClassTables  the class table, node by node
--   Answers      from the search's end to its answer
pub mod States
pub mod TreeSteps
pub mod Ascents
pub mod BudSteps
pub mod Queues
pub mod Looks
pub mod Searches
pub mod Reverses
pub mod Restores
pub mod Roots
pub mod ClassTables
pub mod Answers
