pub mod DelayWord
pub mod DelayLineEdges
