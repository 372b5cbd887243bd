-- What the contracts cite.
--   Exported    what an exported call returns and leaves
pub mod Exported
