-- What the contracts of this crate and of those above it cite.
pub mod Book
pub mod Lines
pub mod Looks
pub mod Tried
pub mod Findings
pub mod Stays
pub mod Index
-- Worked rows and laws.
pub mod Laws
