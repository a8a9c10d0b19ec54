pub mod Parts
pub mod Shape
pub mod Gains
pub mod Examples
