-- What the contracts of this crate and of those above it cite.
pub mod Lines
pub mod Outside
pub mod Wanted
pub mod Parts
pub mod Causes
pub mod Texts
pub mod Answers
