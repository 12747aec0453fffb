pub mod Places
mod Firsts
pub mod Numbers
mod Noted
