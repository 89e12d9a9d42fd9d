pub mod ChosenLines
pub mod ChosenLineEdges
