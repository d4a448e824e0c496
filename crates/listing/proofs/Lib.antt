pub mod Writing
pub mod Decimals
pub mod Telling
pub mod Joined
pub mod Going
