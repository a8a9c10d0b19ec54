pub mod Report
pub mod Longest
