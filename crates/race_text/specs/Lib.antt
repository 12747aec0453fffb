-- What the contracts of this crate and of those above it cite.
pub mod Render
-- Worked rows and laws.
pub mod Texts
-- What only private functions cite.
pub mod Labelled
