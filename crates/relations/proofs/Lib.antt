pub mod Walks
pub mod Rings
pub mod Closure
pub mod Within
