pub mod Texts
pub mod Pieces
pub mod Inputs
pub mod Line
pub mod Sums
pub mod Summed
pub mod Laws
