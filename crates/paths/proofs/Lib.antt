pub mod Walked
pub mod Swept
pub mod Joined
pub mod Added
pub mod Kept
pub mod Noted
