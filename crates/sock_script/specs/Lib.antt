-- What the contracts of this crate and of those above it cite.
pub mod Words
pub mod Forms
pub mod Seen
pub mod Grammar
pub mod Output
pub mod Shown
pub mod Steps
pub mod Make
pub mod Counts
-- Worked rows and laws.
pub mod Fits
pub mod MadeRows
pub mod ShownAlike
-- What only private functions cite.
pub mod Pieces
pub mod Reading
pub mod MadeCommands
pub mod CountSteps
