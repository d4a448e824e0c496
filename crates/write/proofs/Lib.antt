pub mod Appends
pub mod Filings
pub mod Givens
pub mod Joins
pub mod Recuts
pub mod Rekeys
pub mod Writes
