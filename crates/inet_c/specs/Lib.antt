-- What the contracts of this crate cite.
pub mod Owned
pub mod Calls
pub mod Opened
pub mod Reaped
pub mod Asked
pub mod Made
pub mod Handed
pub mod Returned
pub mod Seen
pub mod Listed
pub mod Words
