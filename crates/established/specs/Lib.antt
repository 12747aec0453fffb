-- What the contracts of this crate and of those above it cite.
pub mod Rows
pub mod Surveys
pub mod Comings
pub mod Leavings
pub mod Handovers
pub mod Alone
pub mod Homes
pub mod Stays
pub mod Finds
