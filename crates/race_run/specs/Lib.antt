-- What the contracts of this crate cite.
pub mod Made
pub mod Said
pub mod Dumped
pub mod Sections
pub mod Joins
pub mod Races
pub mod Searches
pub mod Lookers
pub mod Looking
pub mod Workers
pub mod Shares
pub mod Jobs
pub mod Scripts
pub mod Works
pub mod Finished
pub mod Told
-- Worked rows and laws.
pub mod Laws
-- A list of all sockets.
pub mod Rows
pub mod Sightings
pub mod Books
pub mod Dumps
pub mod Listings
-- The run by a worker that is alone: what only private functions cite.
pub mod Sole
pub mod Looks
pub mod Steps
