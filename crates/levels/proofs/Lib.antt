pub mod Clauses
pub mod Asked
pub mod Levels
