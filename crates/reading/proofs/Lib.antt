-- Laws by subject.
--   KnownBytes      bytes that a reader gave, read after read
pub mod KnownBytes
