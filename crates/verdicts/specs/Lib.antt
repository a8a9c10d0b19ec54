pub mod Sources
pub mod Verdicts
pub mod Told
pub mod Wants
pub mod AtHand
