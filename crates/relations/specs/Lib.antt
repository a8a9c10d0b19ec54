pub mod Relation
pub mod Walk
pub mod Within
