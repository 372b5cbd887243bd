-- What files hold, what reading one answers, and how answers are written.
--   Tables             what a reader stores, and flags of cameras
--   LentFits           fits as a look-up takes them
--   GraphFile          graph files: questions 5, 8 to 10 and 16, and the graph a file holds
--   StockFile          stock files: questions 5 and 8 to 14, the stock a file holds; plans and standing sheets as they are written
--   PlanFile           plan files handed in: questions 7, 9 and 12 to 14, and the pairs a file says
--   CertificateFile    paths and barriers: questions 4 and 8, 9, whether one holds, and as they are written
--   SameLines          what is promised of files of the same lines, whichever ends the lines have
--   SelfArcs           what is promised of graph files where an arc may lead from a node to itself
--   Answers            answers as they are written line by line
--   Readers            what reading a file answers, and holds in lent slices
--   CertificateReaders the same of a certificate
pub mod Tables
pub mod LentFits
pub mod GraphFile
pub mod StockFile
pub mod PlanFile
pub mod CertificateFile
pub mod SameLines
pub mod SelfArcs
pub mod Answers
pub mod Readers
pub mod CertificateReaders
