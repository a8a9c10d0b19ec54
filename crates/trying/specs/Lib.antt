pub mod Recorded
pub mod Tries
