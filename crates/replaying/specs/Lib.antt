pub mod Answers
pub mod Full
