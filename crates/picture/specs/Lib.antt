-- What the contracts of this program cite.
pub mod Ends
pub mod Status
pub mod Written
