pub mod Choice
pub mod Keys
pub mod Walk
