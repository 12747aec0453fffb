pub mod RankHomes
pub mod Powers
pub mod HashFits
