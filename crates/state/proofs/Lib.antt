pub mod Parts
pub mod PartRanges
pub mod State
