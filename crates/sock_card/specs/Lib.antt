-- What the contracts of this crate and of those above it cite.
pub mod Tuples
pub mod Rank
pub mod Limits
pub mod Conflict
pub mod TimeWait
pub mod Kinds
pub mod Became
pub mod Words
-- Worked rows and laws.
pub mod Agreement
pub mod Rows
