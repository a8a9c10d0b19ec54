pub mod Accepted
pub mod InForm
pub mod Cases
pub mod ToCome
pub mod Fresh
