pub mod Stage
pub mod State
pub mod Promises
pub mod Parts
