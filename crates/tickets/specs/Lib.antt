-- What the contracts of this crate and of those above it cite, in the order in which it can be read.
pub mod Views
pub mod Draws
pub mod Passes
-- What only private functions cite. It is the rule behind those contracts.
pub mod Plays
pub mod Numbered
