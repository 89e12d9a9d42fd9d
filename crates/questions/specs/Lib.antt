pub mod Answers
pub mod Input
pub mod Feeding
pub mod Promises
pub mod Parts
pub mod InputEdges
