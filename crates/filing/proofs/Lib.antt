pub mod Placed
pub mod Stands
pub mod Folds
pub mod Demanding
pub mod Writing
