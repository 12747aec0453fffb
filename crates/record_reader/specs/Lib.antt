-- What the contracts of this crate and of those above it cite.
pub mod Words
pub mod Names
pub mod Forms
pub mod Record
pub mod Steps
pub mod Told
pub mod Verdicts
-- Worked rows and laws.
pub mod Laws
-- What only private functions cite.
pub mod Numbers
