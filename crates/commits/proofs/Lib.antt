pub mod Cases
pub mod Begun
pub mod Completed
pub mod OwnOnly
pub mod Turns
