-- Lists, and what their items weigh.
pub mod Passing
pub mod Rows
pub mod Weights
pub mod Listed
pub mod First
pub mod SameOwners
