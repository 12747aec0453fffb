mod PortsLeft
mod ComesFirst
pub mod Standings
pub mod TurnSearch
pub mod TurnConnect
pub mod ConnectAlone
