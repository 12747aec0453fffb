pub mod Agreement
pub mod SameKinds
pub mod Ranks
pub mod Tuples
pub mod Most
pub mod WordTuples
