pub mod Numbers
pub mod Steps
pub mod Uses
