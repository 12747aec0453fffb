pub mod Pieces
pub mod Cuts
pub mod EndTexts
pub mod Fronts
pub mod Octets
