pub mod Tests
pub mod Choose
pub mod Search
pub mod Steps
pub mod Counting
