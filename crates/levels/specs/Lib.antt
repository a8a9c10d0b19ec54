pub mod Clause
pub mod Level
