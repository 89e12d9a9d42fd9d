pub mod Told
pub mod FaultEdges
