-- What the contracts of this crate and of those above it cite.
pub mod Places
pub mod Numbers
pub mod Firsts
pub mod Seeds
