pub mod Heads
pub mod Records
pub mod Wholes
pub mod Sections
pub mod Blocks
pub mod Captures
pub mod Rows
