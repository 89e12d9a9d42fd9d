pub mod Week
pub mod Meaning
pub mod Edges
pub mod Reading
