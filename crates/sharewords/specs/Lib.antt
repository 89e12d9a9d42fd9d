pub mod CountWord
pub mod CountLineEdges
