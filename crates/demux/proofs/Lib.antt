mod Sights
mod Follows
