mod Places
pub mod Names
pub mod Asked
pub mod Stays
pub mod Rolls
pub mod Newcomers
mod NextOver
mod Searches
pub mod Closes
mod Owns
mod Settled
mod Ended
pub mod Spent
mod LeftOff
mod Gives
mod Moments
mod Published
mod Reaps
mod Reaped
mod ReapsMost
mod Made
mod Steps
mod Given
mod Children
mod Handshakes
mod Begins
pub mod Budgets
mod Opened
