mod Overlapping
mod Texts
mod Stored
pub mod Places
