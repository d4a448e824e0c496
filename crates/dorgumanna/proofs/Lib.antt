pub mod Signs
pub mod Carried
