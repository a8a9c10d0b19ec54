pub mod Replaced
pub mod Refused
pub mod WholeStore
