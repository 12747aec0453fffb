pub mod Named
pub mod Whole
pub mod Commands
pub mod Numbers
