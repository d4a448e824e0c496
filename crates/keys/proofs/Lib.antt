pub mod Numbers
pub mod Orders
pub mod Prefixes
pub mod Heads
pub mod Words
pub mod Between
pub mod Sharing
pub mod Methods
