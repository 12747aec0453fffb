-- What the contracts of this crate and of those above it cite.
pub mod Limits
pub mod First
pub mod Members
pub mod OwnerStep
pub mod Journal
pub mod Notes
pub mod Callers
pub mod Turned
pub mod Bucket
pub mod HeldBy
pub mod Kept
pub mod Fields
pub mod Answers
pub mod BindHash
pub mod Followed
pub mod OwnTold
pub mod Closed
-- Worked rows and laws.
pub mod Rows
-- What only private functions cite.
pub mod Tally
pub mod OwnerCounts
pub mod Owners
pub mod Change
pub mod MaybePlace
pub mod Links
pub mod Slots
pub mod Runs
