pub mod Ready
pub mod Listing
pub mod Way
pub mod Whole
