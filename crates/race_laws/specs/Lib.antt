-- What the contracts of this crate and of those above it cite.
pub mod Names
pub mod Handovers
pub mod Plays
pub mod Order
pub mod Sole
pub mod Laws
