-- What the contracts of this crate and of those above it cite.
pub mod Order
pub mod Listing
-- Worked rows and laws.
pub mod Laws
