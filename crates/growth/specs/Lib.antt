pub mod Made
pub mod Ordered
pub mod Links
pub mod Sessions
pub mod Views
pub mod Clauses
