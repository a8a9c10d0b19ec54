pub mod Operating
pub mod LedBy
