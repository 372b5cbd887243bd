-- What the contracts cite.
--   Argument   a number of searches as it is typed
--   Printed    what each program prints for a file
pub mod Argument
pub mod Printed
