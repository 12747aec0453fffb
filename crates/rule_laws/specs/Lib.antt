-- What the laws of this crate cite.
pub mod Finds
pub mod Dumps
pub mod Leaves
pub mod Events
pub mod Rows
pub mod TextRows
pub mod Scripts
