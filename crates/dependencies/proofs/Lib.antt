pub mod Bounds
pub mod Implications
pub mod Growth
pub mod Opening
pub mod Owned
pub mod Acyclic
pub mod Rings
