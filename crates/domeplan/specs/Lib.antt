pub mod Rounds
pub mod Waiting
