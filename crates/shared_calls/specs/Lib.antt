-- What the contracts of this crate and of those above it cite.
pub mod Numbers
pub mod Callings
pub mod Asked
pub mod Lookings
pub mod Sharings
pub mod Limits
pub mod Reapings
pub mod Order
pub mod Batches
pub mod Marks
