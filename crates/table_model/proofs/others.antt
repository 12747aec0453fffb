-- What a step of one section leaves of another.
pub mod Slots
pub mod Sockets
pub mod Step
pub mod All
