-- What the contracts of this crate cite.
pub mod Words
pub mod Status
pub mod Table
pub mod Verdict
pub mod Audit
pub mod Races
-- Worked rows and laws.
pub mod WordRows
