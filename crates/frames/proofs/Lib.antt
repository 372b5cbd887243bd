-- Laws by subject; each file stands on those above it.
--   LineEnds      what ends a line
--   LinePlaces    lines by their places in a file, and one by one
--   EitherEnd     files whose lines end either way
--   HexNumbers    numbers of digits, in a line and in the file
--   WholeFiles    question 3, line by line
--   Questions     questions put one after the other
--   BodyFrames    questions 6 and 7, line by line
--   HeaderFrames  questions 2, 3 and 4, and the first line
--   ShapeFaults   questions 2 to 7 together
--   TwoDigits     the table of numbers in two digits
--   Writes        bytes written one behind the other into a lent slice
--   Begins        files that begin with a text
--   LineCounts    how many lines a file of so many bytes has
--   Runs          runs of lines of one kind
--   Stores        runs of body frames stored line by line
--   StoredBodies  what storing the runs of a file gives: its pairs and numbers
pub mod LineEnds
pub mod LinePlaces
pub mod EitherEnd
pub mod HexNumbers
pub mod WholeFiles
pub mod Questions
pub mod BodyFrames
pub mod HeaderFrames
pub mod ShapeFaults
pub mod TwoDigits
pub mod Writes
pub mod Begins
pub mod LineCounts
pub mod Runs
pub mod Stores
pub mod StoredBodies
