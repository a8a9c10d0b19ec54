pub mod Seen
pub mod Readers
pub mod Visible
pub mod Claim
pub mod Examples
