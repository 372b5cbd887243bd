-- What contracts and laws cite.
--   Frames     files of frames, the questions of their shape, frames as written
--   Questions  questions as a list, and the first answered no
--   Lines      lines by their places in a file
--   LineRuns   lines of a file one by one
--   EitherEnd  files whose lines end either way, and what is promised of their lines
--   Numbers    numbers of digits as code reads them
--   Shape      the questions of a file's shape as they are read, and what is known of a file that has it
--   Writes     bytes compared with a file's front
--   Stores     runs of body frames stored in slices
pub mod Frames
pub mod Questions
pub mod Lines
pub mod LineRuns
pub mod EitherEnd
pub mod Numbers
pub mod Shape
pub mod Writes
pub mod Stores
