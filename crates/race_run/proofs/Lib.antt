pub mod Sightings
pub mod Leaving
pub mod Dumping
pub mod Sectioned
pub mod Weights
pub mod Joining
pub mod CardsTold
pub mod FromRaw
pub mod Listings
pub mod Refusals
pub mod Sums
pub mod Plans
pub mod Waiting
pub mod Missed
pub mod Freed
pub mod Reaping
pub mod Closing
pub mod Reaped
pub mod Idle
pub mod Staged
pub mod Looking
pub mod Searching
pub mod Staging
pub mod Holding
pub mod Looked
pub mod Items
pub mod Placing
pub mod Dealing
pub mod Taking
pub mod Running
pub mod Sharing
pub mod Working
pub mod Finishing
pub mod Telling
pub mod ForRace
pub mod Crossing
mod CardsSame
mod CardsOf
mod CardsBest
mod CardsStand
mod Standing
mod LooksGroup
mod LooksSame
mod SeesNow
pub mod RunListings
pub mod CommandRuns
pub mod SectionTurns
pub mod Alone
pub mod Lookups
pub mod Starting
pub mod Cards
pub mod Seeings
pub mod Lives
pub mod Dumped
mod Sorted
