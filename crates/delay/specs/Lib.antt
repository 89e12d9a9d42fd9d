pub mod Bounds
pub mod Reading
pub mod Promised
pub mod Limits
pub mod Edges
