pub mod Begins
pub mod Tested
pub mod Inserts
pub mod Sets
pub mod Changed
pub mod RunTests
