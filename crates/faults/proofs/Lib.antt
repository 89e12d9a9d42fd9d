pub mod Lists
pub mod ToldLines
pub mod ToldEach
pub mod Tells
pub mod LinesBegin
pub mod FaultEdges
