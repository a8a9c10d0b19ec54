pub mod Operations
pub mod Records
pub mod Listing
