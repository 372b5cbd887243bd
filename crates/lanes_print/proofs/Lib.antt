-- The laws, by subject.
--   Arguments   a number of searches, read digit by digit
--   Printing    from what a call owes to what is printed
pub mod Arguments
pub mod Printing
