pub mod Visible
pub mod Claim
pub mod Examples
