pub mod Answers
pub mod Promised
pub mod Edges
