-- What the contracts of this crate and of those above it cite, in the order in which it can be read.
pub mod Journals
pub mod Values
pub mod Views
pub mod Passes
pub mod Ends
-- Worked rows and laws. What stands here before the law `FindsAll` is the rule behind those contracts.
pub mod Turning
-- What only private functions cite. It is what each step of that rule shows.
pub mod Plays
