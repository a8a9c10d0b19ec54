pub mod Along
pub mod OneRecord
pub mod Runs
