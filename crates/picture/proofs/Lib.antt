mod Told
mod Outcomes
