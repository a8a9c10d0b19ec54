pub mod Answered
pub mod Longest
