pub mod Pieces
pub mod Marks
pub mod Tally
pub mod Honest
pub mod Fits
pub mod Weighed
pub mod Starts
pub mod Sweep
