-- What the contracts of this crate and of those above it cite.
pub mod Sizes
pub mod Sides
pub mod Made
pub mod Answers
pub mod Socks
pub mod Stands
pub mod Tables
pub mod Spends
pub mod There
pub mod Listens
pub mod Closes
pub mod Groups
pub mod Leads
pub mod Goes
pub mod Accepting
pub mod Handshaking
pub mod Reaping
pub mod Laws
-- What only private functions cite.
pub mod Binding
pub mod Hashing
pub mod Connecting
pub mod Searching
