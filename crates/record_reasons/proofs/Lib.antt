pub mod Copied
pub mod Joined
pub mod Judged
pub mod Refused
