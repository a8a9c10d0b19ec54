pub mod Passing
pub mod Gathered
pub mod Linked
pub mod Stepped
pub mod Agreeing
pub mod Kept
pub mod Handed
