pub mod Answers
pub mod Overloads
pub mod MeshLineEdges
