pub mod Along
pub mod Ran
pub mod OneRecord
