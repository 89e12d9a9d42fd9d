pub mod Programmes
pub mod Asked
pub mod ProgrammeLineEdges
