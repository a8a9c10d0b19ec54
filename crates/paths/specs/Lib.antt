pub mod Path
pub mod Added
