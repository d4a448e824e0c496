pub mod Shown
pub mod Entries
