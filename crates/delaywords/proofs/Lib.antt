pub mod DelayLines
pub mod DelayLineEdges
