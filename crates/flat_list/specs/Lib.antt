-- What the contracts of this crate and of those above it cite.
pub mod Ports
pub mod Sections
pub mod Groups
pub mod Flat
pub mod Owned
pub mod Sockets
pub mod Outcome
pub mod Look
pub mod Listed
pub mod Connect
pub mod Step
pub mod Run
pub mod Sound
pub mod Script
pub mod Padded
pub mod Kept
pub mod Labels
pub mod Fits
-- Worked rows and laws.
pub mod Rows
pub mod MoreRows
