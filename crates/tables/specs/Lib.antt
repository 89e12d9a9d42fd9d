pub mod Owners
pub mod Masks
pub mod Rows
pub mod Padded
pub mod Holdings
pub mod Bounds
pub mod Asked
pub mod Search
