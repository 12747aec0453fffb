-- What a bucket or a chain answers, and what is left then.
pub mod Taken
pub mod Replaced
pub mod Inserts
pub mod Conflicts
pub mod Asked
pub mod Requests
pub mod Search
pub mod WhichGroup
pub mod GroupRequests
pub mod Run
