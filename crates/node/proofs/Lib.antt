pub mod Rules
pub mod Admits
pub mod Entries
pub mod Spelling
pub mod Copies
pub mod Trails
pub mod Spaces
