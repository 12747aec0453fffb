-- What the contracts of this crate and of those above it cite.
pub mod Deeds
pub mod Goes
pub mod Record
pub mod Stages
pub mod Lawful
pub mod Laws
pub mod Headline
-- Worked rows and laws.
pub mod Worked
pub mod Refused
pub mod Gathered
pub mod Wrong
