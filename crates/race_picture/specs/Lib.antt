-- What the contracts of this crate and of those above it cite.
pub mod Xml
pub mod Sheet
pub mod Lanes
pub mod Texts
pub mod Rows
pub mod Shapes
pub mod Bars
pub mod Marks
pub mod Frame
pub mod Picture
-- The grammar of well-formed texts, and laws.
pub mod WellFormed
pub mod Laws
