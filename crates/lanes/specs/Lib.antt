-- What the calls' contracts and the promises cite.
--   Entry              what each call answers and leaves: result and buffer, and what it comes to
--   Tallies            the tally, and what calls in a row do to it
--   Verdicts           the check's answer, part by part
--   Calls              the questions before a file's, and what a result tells and comes to
--   Taken              a graph or a stock as it is read from a file
--   GraphCalls         what the graph call answers by value
--   StockCalls         what the stock call answers by value
--   BudgetCalls        what the budgeted call answers by value
--   Promise            what is promised of every file: demands 1 to 3, and the marked set
--   StockPromise       what is promised of the stock call: the two halves of its answer
--   BytePromise        five of both as document 03 states them
--   BudgetPromise      what is promised of the budgeted call
--   EitherEnd          what is promised where lines end either way
--   SelfArcs           what is promised where an arc leads from a node to itself
--   CallerPromise      what is promised of callers, and of the tally over calls in a row
--   Known              known graphs and stocks as files, byte for byte
pub mod Entry
pub mod Tallies
pub mod Verdicts
pub mod Calls
pub mod Taken
pub mod GraphCalls
pub mod StockCalls
pub mod BudgetCalls
pub mod Promise
pub mod StockPromise
pub mod BytePromise
pub mod BudgetPromise
pub mod EitherEnd
pub mod SelfArcs
pub mod CallerPromise
pub mod Known
