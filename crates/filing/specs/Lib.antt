pub mod Batches
pub mod Standing
pub mod Demanded
pub mod Written
