-- Document 01's numbers, as contracts and definitions cite them.
--   Kinds      the kinds of frames
--   Refusals   the questions that can be answered no, by their numbers
--   Marks      the marks of cameras, by their numbers
--   Limits     how large files, graphs, stocks and answers may be
pub mod Kinds
pub mod Refusals
pub mod Marks
pub mod Limits
