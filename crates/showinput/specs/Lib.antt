pub mod Input
pub mod Promises
pub mod Edges
