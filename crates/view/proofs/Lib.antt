pub mod Shows
pub mod Paged
pub mod Entering
