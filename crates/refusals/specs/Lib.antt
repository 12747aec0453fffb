-- What the contracts of this crate and of those above it cite.
pub mod Before
pub mod Places
pub mod Ports
pub mod Options
pub mod Reasons
pub mod Captures
pub mod Texts
