pub mod OverLines
pub mod AskedLines
pub mod MeshLineEdges
