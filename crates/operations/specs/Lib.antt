pub mod Given
pub mod PerKey
pub mod Change
pub mod Answers
