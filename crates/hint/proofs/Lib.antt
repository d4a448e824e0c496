pub mod Refreshed
pub mod Runs
pub mod Windows
