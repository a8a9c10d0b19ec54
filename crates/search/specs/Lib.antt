pub mod Choose
pub mod Search
