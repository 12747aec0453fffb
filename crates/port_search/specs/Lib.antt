-- What the contracts of this crate and of those above it cite.
pub mod Ports
pub mod Search
pub mod Turned
pub mod TurnedConnect
-- Worked rows and laws.
pub mod Rows
