-- What the contracts of this crate and of those above it cite.
pub mod Numbers
pub mod Header
pub mod Flaws
pub mod Items
pub mod Sections
pub mod Blocks
pub mod Captures
pub mod Grammar
-- Worked rows and laws.
pub mod Rows
