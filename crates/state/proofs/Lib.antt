pub mod Opening
pub mod Lookup
pub mod Sets
pub mod Accesses
pub mod Ranks
pub mod Gathering
pub mod Below
