-- Laws that connect the code to the theory.
--   CameraLists       a list written camera by camera
--   DoubledTables     the doubled table, written arc by arc
--   FollowedPaths     a path followed by rotations of a row
--   RowPairs          a row read from pairs, and how many pairs it has
--   CameraMarks       the flags of cameras that have a fit, and the marks
--   OneSearch         the doubled table as a search sees it, and its answers
--   SearchRuns        from the lit pairs to a plan, one search after the other
--   ListedPairs       what a caller reads of a pairing that it was handed
pub mod CameraLists
pub mod DoubledTables
pub mod FollowedPaths
pub mod RowPairs
pub mod CameraMarks
pub mod OneSearch
pub mod SearchRuns
pub mod ListedPairs
