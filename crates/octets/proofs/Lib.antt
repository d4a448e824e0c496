pub mod Part
pub mod Put
pub mod Alike
pub mod Little
pub mod Big
pub mod Turns
pub mod Clauses
pub mod Methods
