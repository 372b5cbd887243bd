-- Laws by subject; each file stands on those above it.
--   Tables           what the questions let a reader store, and what is read back
--   PairScans        questions 9 to 13 put to pairs and arcs by the library's chains
--   SharedCameras    question 14, with a table of flags
--   AnswerLines      answers written line by line
--   AnswerEnds       an answer is whole lines, each ended by a line feed alone
--   Asked            the chains of questions, as lists
--   SameLines        files of the same lines, whichever ends the lines have
--   SelfArcs         graph files where an arc may lead from a node to itself
--   AcceptedFiles    what the questions settle of a file
--   PlanBytes        what a plan's bytes tell
--   SheetBytes       what a standing sheet's bytes tell
--   BudgetBytes      what a budget's bytes tell
--   GraphFiles       the questions of a graph file
--   StockFiles       the questions of a stock file
--   PlanFiles        the questions of a plan file, and of a plan as it is written
--   CertificateFiles the questions of a certificate
--   FirstLines       which kind of certificate a file is, by its first line
--   ArcTables        a graph that was read, as the search takes it
pub mod Tables
pub mod PairScans
pub mod SharedCameras
pub mod AnswerLines
pub mod AnswerEnds
pub mod Asked
pub mod SameLines
pub mod SelfArcs
pub mod AcceptedFiles
pub mod PlanBytes
pub mod SheetBytes
pub mod BudgetBytes
pub mod GraphFiles
pub mod StockFiles
pub mod PlanFiles
pub mod CertificateFiles
pub mod FirstLines
pub mod ArcTables
