-- What the contracts of this crate and of those above it cite.
pub mod Numbers
pub mod Commands
pub mod Calls
pub mod Errnos
pub mod Sights
pub mod Items
