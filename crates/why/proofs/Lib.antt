mod Answered
mod Asking
mod Told
