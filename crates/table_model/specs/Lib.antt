-- What the contracts of this crate and of those above it cite.
pub mod Asking
pub mod Tables
pub mod Own
pub mod Operations
pub mod Commands
pub mod Means
pub mod Goes
-- Worked rows and laws.
pub mod Rows
