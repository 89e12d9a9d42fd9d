pub mod ExtrasWord
pub mod Asked
pub mod ChosenLineEdges
