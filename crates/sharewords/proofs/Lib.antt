pub mod CountLines
pub mod CountLineEdges
