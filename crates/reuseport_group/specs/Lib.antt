-- What the contracts of this crate and of those above it cite, in the order in which it can be read.
pub mod Member
pub mod Pick
pub mod Words
pub mod Views
pub mod Passes
pub mod Choosing
-- What only private functions cite. It is the rule behind those contracts.
pub mod Plays
pub mod Grouped
