-- Laws by subject; each file stands on those above it.
--   ByName       the entries of a state, by their names
--   PairColumns  pairs in two columns behind a header
--   Entries      the entries that slots say, moved, passed and closed up
--   Names        a name looked for among the entries
--   Fronts       what stands before the slots
--   Fillings     a slot filled, and its pairs written; pairs kept under a name
--   Calls        what each call owes
--   Reached      what holds of every state that calls lead to
--   Standing     what stands under a name, over calls in a row
--   Promises     the promises, kept over any calls in a row
--   Known        examples, by computing
pub mod ByName
pub mod PairColumns
pub mod Entries
pub mod Names
pub mod Fronts
pub mod Fillings
pub mod Calls
pub mod Reached
pub mod Standing
pub mod Promises
pub mod Known
