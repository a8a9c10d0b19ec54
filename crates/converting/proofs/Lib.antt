pub mod EitherEdition
pub mod Differing
pub mod Going
pub mod Answered
