pub mod Refresh
pub mod Passing
