pub mod Summing
pub mod Layers
pub mod BestSets
pub mod Promises
pub mod Edges
