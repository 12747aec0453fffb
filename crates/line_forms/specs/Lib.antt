-- What the contracts of this crate and of those above it cite.
pub mod Seen
pub mod Kinds
pub mod Wants
pub mod Laws
-- What only private functions cite.
pub mod Stands
