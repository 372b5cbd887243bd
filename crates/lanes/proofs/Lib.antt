-- Laws by subject; each file stands on those above it.
--   Marked           the marked set, as one fact about the definitions
--   Known            known graphs and stocks as files, by computing
--   CallFaults       the questions of a call before its file's
--   Promises         the promises, kept for every file
--   StockPromises    the stock call's promises
--   BytePromises     five of both as document 03 states them
--   BudgetPromises   the budgeted call's promises
--   EitherEnd        the promises where lines end either way
--   Checks           the check's answer
--   SelfArcs         the promises where an arc leads from a node to itself
--   CallerPromises   the promises of callers, and of the tally over calls in a row
--   GraphCalls       what the graph call answers
--   StockCalls       what the stock call answers
--   BudgetCalls      what the budgeted call answers
pub mod Marked
pub mod Known
pub mod CallFaults
pub mod Promises
pub mod StockPromises
pub mod BytePromises
pub mod BudgetPromises
pub mod EitherEnd
pub mod Checks
pub mod SelfArcs
pub mod CallerPromises
pub mod GraphCalls
pub mod StockCalls
pub mod BudgetCalls
