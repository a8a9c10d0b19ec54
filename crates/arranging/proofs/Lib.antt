pub mod Answered
pub mod Misshapen
pub mod Written
pub mod Claim
