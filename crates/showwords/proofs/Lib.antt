pub mod LinkLines
pub mod AskedShow
pub mod Edges
