pub mod AsBox
pub mod Handles
pub mod Moving
pub mod Keyless
pub mod Crossing
mod Holding
