-- What the contracts of this crate and of those above it cite.
pub mod Sections
pub mod Places
pub mod Opened
pub mod Kept
pub mod Waits
pub mod Standing
pub mod Carried
pub mod Searches
pub mod LeftOff
pub mod Reaping
-- Worked rows and laws.
pub mod Begins
