pub mod Placed
pub mod Taken
pub mod Judged
