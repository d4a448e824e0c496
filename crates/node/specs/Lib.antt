pub mod Header
pub mod Admit
