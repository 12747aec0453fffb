mod FirstPlace
mod Beside
mod LeftOut
mod Named
mod WithoutMember
mod CanListen
mod FirstPairs
mod FreePort
mod StaysAgreed
mod Journals
mod StaysSound
mod StaysKept
pub mod StaysGrouped
pub mod Told
mod RoomToGo
mod RoomLeft
pub mod Filtered
pub mod ToldByOwn
pub mod GroupNumber
mod Counted
mod Tallied
mod RuledOut
mod SlotSteps
mod SlotsKept
mod Linked
mod Sought
mod Searched
mod WantedBy
mod OwnersIn
pub mod TurnSteps
pub mod HashSteps
pub mod OwnTold
pub mod Closed
mod Opened
