pub mod lists
pub mod parts
pub mod questions
pub mod commands
pub mod others
