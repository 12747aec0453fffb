pub mod Goes
pub mod There
pub mod Groups
mod OneChanges
pub mod Knows
pub mod BindGoes
pub mod BindStands
mod ListenGoes
mod ListenStands
mod CloseGoes
pub mod Inserted
pub mod ConnectGoes
pub mod SearchGoes
pub mod SockGoes
pub mod AcceptGoes
mod SynGoes
mod AckGoes
mod ReapGoes
pub mod Listed
mod Lists
pub mod Spares
mod ListTurns
mod AskedFirst
pub mod Crossing
pub mod Found
pub mod Seen
pub mod Stays
pub mod Left
pub mod Alone
pub mod Comes
pub mod ChainGoes
pub mod Hands
pub mod Reaps
pub mod Rooms
pub mod Homes
