pub mod Places
pub mod Room
pub mod Keeps
pub mod Answers
pub mod Lookup
pub mod Accesses
pub mod Rows
