pub mod Codes
pub mod Engines
pub mod Records
