-- Lemmas of this crate alone.
pub mod Walk
pub mod Own
pub mod Counted
pub mod Cards
pub mod Best
pub mod Dumps
pub mod TextsRead
pub mod FormsRead
pub mod Orderly
