pub mod Walk
pub mod Verbs
