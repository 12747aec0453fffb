mod Plain
mod Elements
mod Documents
mod Counted
mod Once
mod Ticks
mod Joined
