pub mod Filled
pub mod ProgrammeLines
pub mod ProgrammeLineEdges
