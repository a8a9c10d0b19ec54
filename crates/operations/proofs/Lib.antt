pub mod Reading
pub mod PerKey
pub mod Rows
pub mod Noted
pub mod Appended
