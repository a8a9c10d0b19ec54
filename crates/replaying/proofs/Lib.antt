pub mod Turns
pub mod Full
pub mod Grown
pub mod Committed
pub mod Standing
pub mod Answered
